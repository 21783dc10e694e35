use mathlib.Core.Path.{◌∙◌, sym, ap}
use mathlib.Core.List.{List}
use Prim.Native.Nat.{ℕ}
use lib.ListN.{get_or}
use Rattle.machine.specs.declared.Entry.{Entry}
use Rattle.machine.specs.Word.{entry_of}
use Rattle.stepping.proofs.Places.{no_place, issue_place, commit_place}
use Rattle.stepping.proofs.place_of.Goals as goal

pub bounds-m-proc : goal.bounds-m-proc
bounds-m-proc c = c.requires.issue (sym c.names.ensures ∙ c.if-not-names.false) c.if-kind-eq0.true

pub returns-then-kind-eq0 : goal.returns-then-kind-eq0
returns-then-kind-eq0 c =
    let a = c.args in
    let h = sym c.names.ensures ∙ c.if-not-names.false in
    λ x m e v places acts is. ap (λ (l : List ℕ). get_or l a.proc 0) (sym places) ∙ issue_place x m v a.kind a.proc a.action e a.code is h c.if-kind-eq0.true

pub entry_at-requires : goal.entry_at-requires
entry_at-requires c = c.requires.commit (sym c.names.ensures ∙ c.if-not-names.false) c.if-kind-eq0.false

pub returns-else-kind-eq0 : goal.returns-else-kind-eq0
returns-else-kind-eq0 c =
    let a = c.args in
    let h = sym c.names.ensures ∙ c.if-not-names.false in
    λ x m e v places acts is.
    ap (λ (i : Entry). i.place) c.entry_at.ensures
    ∙ ap (λ (l : List ℕ). (entry_of (get_or l a.action 0)).place) (sym acts)
    ∙ commit_place x m v a.kind a.proc a.action e a.code is h c.if-kind-eq0.false

pub returns-then-not-names : goal.returns-then-not-names
returns-then-not-names c =
    let a = c.args in
    λ x m e v places acts is. no_place x m v a.kind a.proc a.action e a.code is (sym c.names.ensures ∙ c.if-not-names.true)
