use Rattle.stepping.proofs.Takes.{issue_taken, issue_shown, commit_taken, commit_shown}
use Rattle.stepping.proofs.take.Goals as goal

pub issue-requires : goal.issue-requires
issue-requires c =
    let a = c.args in
    let z = c.if-kind-eq0.true in
    record {
      case = c.requires.case;
      holders = a.m.now.holders;
      coded = c.requires.coded;
      accepted = issue_taken c.requires.case _ a.kind a.p a.k a.src c.requires.accepted z;
    }

pub returns-then-kind-eq0 : goal.returns-then-kind-eq0
returns-then-kind-eq0 c =
    let a = c.args in
    let z = c.if-kind-eq0.true in
    λ x P Q M A.
    issue_shown x _ a.kind a.p a.k a.src A z _ (c.issue.ensures.showing x P Q (issue_taken x _ a.kind a.p a.k a.src A z))

pub commit-requires : goal.commit-requires
commit-requires c =
    let a = c.args in
    let z = c.if-kind-eq0.false in
    record { case = c.requires.case; names = a.m.now.names; accepted = commit_taken c.requires.case _ a.kind a.p a.k a.src c.requires.accepted z }

pub returns-else-kind-eq0 : goal.returns-else-kind-eq0
returns-else-kind-eq0 c =
    let a = c.args in
    let z = c.if-kind-eq0.false in
    λ x P Q M A.
    commit_shown x _ a.kind a.p a.k a.src A z _ (c.commit.ensures.showing x Q M (commit_taken x _ a.kind a.p a.k a.src A z))
