use mathlib.Core.Path.{sym}
use native.Mathlib.Omega.{arith}
use Rattle.searching.proofs.Entered.{entered-none}
use Rattle.searching.proofs.Taken.{issue_here, there_at, commit_at, accepted_at_lem, shows_at}
use Rattle.searching.proofs.enter.Goals as goal

-- The step is taken, if there is one. Assumes nothing.
pub returns-then-i-ge3200 : goal.returns-then-i-ge3200
returns-then-i-ge3200 c k coded starts memory E = record { shows = sym (entered-none k _ _ c.if-i-ge3200.true); valid = E.valid }

pub take-requires : goal.take-requires
take-requires c =
    let p = c.requires in
    let l = c.if-i-ge3200.false in
    record { case = p.case; coded = p.coded; accepted = accepted_at_lem p.entering l (issue_here p.entering c.if-i-ge3136.true l) }

pub returns-then-i-ge3136 : goal.returns-then-i-ge3136
returns-then-i-ge3136 c k coded starts memory E =
    let l = c.if-i-ge3200.false in
    let e = issue_here E c.if-i-ge3136.true l in
    shows_at E l e (c.take.ensures k coded starts memory (accepted_at_lem E l e))

pub entry_at-e-requires : goal.entry_at-e-requires
entry_at-e-requires c =
    let E = c.requires.entering in
    omega (arith, there_at E c.if-i-ge3136.false c.action_at-k.result c.action_at-k.ensures, E.valid.issued)

pub take-requires-2 : goal.take-requires-2
take-requires-2 c =
    let p = c.requires in
    record {
      case = p.case;
      coded = p.coded;
      accepted = accepted_at_lem p.entering c.if-i-ge3200.false (commit_at p.entering c.if-i-ge3136.false c.action_at-k.result c.action_at-k.ensures c.entry_at-e.result c.entry_at-e.ensures _ _ c.wide.ensures.0 c.source_at.ensures);
    }

pub returns : goal.returns
returns c k coded starts memory E =
    let l = c.if-i-ge3200.false in
    let e = commit_at E c.if-i-ge3136.false c.action_at-k.result c.action_at-k.ensures c.entry_at-e.result c.entry_at-e.ensures _ _ c.wide.ensures.0 c.source_at.ensures in
    shows_at E l e (c.take-2.ensures k coded starts memory (accepted_at_lem E l e))
