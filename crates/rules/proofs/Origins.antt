-- What the registers that an action reads are bound to, after every accepted schedule. Assumes nothing.
use Rattle.std.proofs.Common.{◌≡◌, ℕ, zero, suc, ◌<◌, ◌≤◌, Bool, true, false, List, map, sym, refl, ap, ◌∙◌, subst, ⊎_elim, arith, leb-false}
use mathlib.Core.List.{Memᴰ}
use mathlib.Core.Option.{Option, none, some}
use native.Mathlib.Decide.{dec_lt}
use Rattle.words.proofs.Bools.{put_same, put_other}
use Rattle.cases.specs.declared.Instr.{Instr}
use Rattle.cases.specs.declared.Case.{Case}
use Rattle.cases.specs.Case.{count_of, instr_at, preset_of}
use Rattle.cases.specs.Block.{Sound}
use Rattle.cases.specs.Formed.{Formed}
use Rattle.runs.specs.Outcome.{Leads}
use Rattle.runs.proofs.Always.{always_after}
use Rattle.rules.specs.Kinds.{reads, assigns}
use Rattle.rules.specs.State.{State, Action, Name, start, given, initial}
use Rattle.rules.specs.Issue.{here, next, renamed, new_action, issued}
use Rattle.rules.specs.Commit.{committed}
use Rattle.rules.specs.Step.{Step}
use Rattle.rules.specs.Womm.{womm}
use Rattle.rules.specs.Origin.{Assigned, Sets, Unset, Origin, preset, earlier, later}
use Rattle.rules.proofs.Accepted.{CanIssue, CanCommit}
use Rattle.rules.proofs.Actions.{either, by_step, issued_old, issued_new, issued_count, committed_count, committed_keeps}
use Rattle.rules.proofs.Given.{Given, sound_given}

-- a register's name, whatever the case sets: what it started with, or the newest of the first n actions that assigns it
pub data Named (c : Case) (s : State) (n p r : ℕ) : Name → Type 0 where
  untouched : Unset s p r 0 n → Named c s n p r (start (preset_of c p r))
  newest : (k : ℕ) → k < n → Sets s p r k → Unset s p r (suc k) n → Named c s n p r (given k)

-- two states whose first n actions have the same processors and instructions
pub record Alike (s s' : State) (n : ℕ) : Type 0 where
  pub proc : (k : ℕ) → k < n → (s'.actions k).proc ≡ (s.actions k).proc
  pub instr : (k : ℕ) → k < n → (s'.actions k).instr ≡ (s.actions k).instr

module _ {s s' : State} {n : ℕ} (same : Alike s s' n) {p r : ℕ} where
  sets_back : (k : ℕ) → k < n → Sets s' p r k → Sets s p r k
  sets_back k h x = record { proc = sym (same.proc k h) ∙ x.proc; sets = sym (ap assigns (same.instr k h)) ∙ x.sets }

  sets_on : (k : ℕ) → k < n → Sets s p r k → Sets s' p r k
  sets_on k h x = record { proc = same.proc k h ∙ x.proc; sets = ap assigns (same.instr k h) ∙ x.sets }

module _ {c : Case} {s s' : State} {n : ℕ} (same : Alike s s' n) {p r : ℕ} where
  named_same : {x : Name} → Named c s n p r x → Named c s' n p r x
  named_same (untouched u) = untouched (λ k l h y. u k l h (sets_back same k h y))
  named_same (newest k h y u) = newest k h (sets_on same k h y) (λ j l g z. u j l g (sets_back same j g z))

  -- and one action more, which does not assign the register
  named_more : {x : Name} → (Sets s' p r n → ⊥) → Named c s n p r x → Named c s' (suc n) p r x
  named_more {x} other named = more x (named_same named)
    where
      not_yet : (from : ℕ) → Unset s' p r from n → Unset s' p r from (suc n)
      not_yet from u k l h y = either k n (λ e. other (subst (Sets s' p r) e y)) (λ d. u k l (omega arith) y)

      more : (x : Name) → Named c s' n p r x → Named c s' (suc n) p r x
      more x (untouched u) = untouched (not_yet 0 u)
      more x (newest k h y u) = newest k (omega arith) y (not_yet (suc k) u)

-- what an action reads, and where it stands
pub record Reads (c : Case) (s : State) (n : ℕ) : Type 0 where
  pub names : ℕ → Name
  pub inputs : (s.actions n).inputs ≡ map names (reads (s.actions n).instr)
  pub named : (r : ℕ) → Named c s n (s.actions n).proc r (names r)
  pub proc : (s.actions n).proc < c.procs
  pub place : (s.actions n).place < count_of c (s.actions n).proc
  pub instr : (s.actions n).instr ≡ instr_at c (s.actions n).proc (s.actions n).place

pub record Bound (c : Case) (s : State) : Type 0 where
  pub registers : (p r : ℕ) → Named c s s.count p r (s.names p r)
  pub actions : (n : ℕ) → n < s.count → Reads c s n

reads_same : {c : Case} {s s' : State} {n : ℕ} → Alike s s' n → (s'.actions n).proc ≡ (s.actions n).proc → (s'.actions n).place ≡ (s.actions n).place → (s'.actions n).instr ≡ (s.actions n).instr → (s'.actions n).inputs ≡ (s.actions n).inputs → Reads c s n → Reads c s' n
reads_same {c} {s} {s'} {n} same proc place instr inputs a =
    record {
      names = a.names;
      inputs = inputs ∙ a.inputs ∙ ap (λ (i : Instr). map a.names (reads i)) (sym instr);
      named = λ r. subst (λ (p : ℕ). Named c s' n p r (a.names r)) (sym proc) (named_same same (a.named r));
      proc = subst (λ (p : ℕ). p < c.procs) (sym proc) a.proc;
      place = subst (λ (p : ℕ). (s'.actions n).place < count_of c p) (sym proc) (subst (λ (i : ℕ). i < count_of c (s.actions n).proc) (sym place) a.place);
      instr = instr ∙ a.instr ∙ (λ t. instr_at c (sym proc t) (sym place t));
    }

module _ (c : Case) (s : State) (p : ℕ) (I : CanIssue c s p) (b : Bound c s) where
  abbrev s' : State
  s' = issued c s p

  kept : (k : ℕ) → k < s.count → s'.actions k ≡ s.actions k
  kept k h = issued_old c s p k (λ e. omega arith)

  alike : (n : ℕ) → n ≤ s.count → Alike s s' n
  alike n l = record { proc = λ k h. ap (λ (a : Action). a.proc) (kept k (omega arith)); instr = λ k h. ap (λ (a : Action). a.instr) (kept k (omega arith)) }

  new : s'.actions s.count ≡ new_action c s p
  new = issued_new c s p

  new_reads : Reads c s' s.count
  new_reads =
      let proc = ap (λ (a : Action). a.proc) new in
      let place = ap (λ (a : Action). a.place) new in
      let instr = ap (λ (a : Action). a.instr) new in
      record {
        names = s.names p;
        inputs = ap (λ (a : Action). a.inputs) new ∙ ap (λ (i : Instr). map (s.names p) (reads i)) (sym instr);
        named = λ r. subst (λ (q : ℕ). Named c s' s.count q r (s.names p r)) (sym proc) (named_same (alike s.count (omega arith)) (b.registers p r));
        proc = subst (λ (q : ℕ). q < c.procs) (sym proc) I.proc;
        place = subst (λ (q : ℕ). (s'.actions s.count).place < count_of c q) (sym proc) (subst (λ (i : ℕ). i < count_of c p) (sym place) (leb-false (count_of c p) (here c s p) I.inside));
        instr = instr ∙ (λ t. instr_at c (sym proc t) (sym place t));
      }

  by_count : (n : ℕ) → n < suc s.count → Reads c s' n
  by_count n h =
      either n s.count (λ e. subst (Reads c s') (sym e) new_reads)
      (λ d. let k = kept n (omega arith) in reads_same (alike n (omega arith)) (ap (λ (a : Action). a.proc) k) (ap (λ (a : Action). a.place) k) (ap (λ (a : Action). a.instr) k) (ap (λ (a : Action). a.inputs) k) (b.actions n (omega arith)))

  -- the names of the processor that issues
  own : (r : ℕ) (o : Option ℕ) → assigns (next c s p) ≡ o → Named c s' (suc s.count) p r (renamed (s.names p) o (given s.count) r)
  own r none e = named_more (alike s.count (omega arith)) (λ x. nothing (sym e ∙ sym (ap (λ (a : Action). assigns a.instr) new) ∙ x.sets)) (b.registers p r)
    where
      nothing : none ≡ some r → ⊥
      nothing q = absurd (omega (arith, ap size q))
        where
          size : Option ℕ → ℕ
          size none = 0
          size (some v) = 1
  own r (some d) e =
      either r d
      (λ q.
      subst (Named c s' (suc s.count) p r) (sym (put_same (s.names p) d r (given s.count) q))
      (newest s.count (omega arith) (record { proc = ap (λ (a : Action). a.proc) new; sets = ap (λ (a : Action). assigns a.instr) new ∙ e ∙ ap some (sym q) }) (λ k l h. absurd (omega arith))))
      (λ q.
      subst (Named c s' (suc s.count) p r) (sym (put_other (s.names p) d r (given s.count) q))
      (named_more (alike s.count (omega arith)) (λ x. q (sym (held (sym e ∙ sym (ap (λ (a : Action). assigns a.instr) new) ∙ x.sets)))) (b.registers p r)))
    where
      held : some d ≡ some r → d ≡ r
      held q = ap value q
        where
          value : Option ℕ → ℕ
          value none = 0
          value (some v) = v

  names-after : (q r : ℕ) → Named c s' (suc s.count) q r (s'.names q r)
  unfolding issued
  names-after q r =
      either q p
      (λ e. subst (λ (z : ℕ). Named c s' (suc s.count) z r (s'.names z r)) (sym e) (subst (λ (f : ℕ → Name). Named c s' (suc s.count) p r (f r)) (sym (put_same s.names p p _ refl)) (own r (assigns (next c s p)) refl)))
      (λ d. subst (λ (f : ℕ → Name). Named c s' (suc s.count) q r (f r)) (sym (put_other s.names p q _ d)) (named_more (alike s.count (omega arith)) (λ x. d (sym x.proc ∙ ap (λ (a : Action). a.proc) new)) (b.registers q r)))

  bound_issue : Bound c s'
  bound_issue = record { registers = λ q r. subst (λ (n : ℕ). Named c s' n q r (s'.names q r)) (sym (issued_count c s p)) (names-after q r); actions = λ n h. by_count n (subst (λ (m : ℕ). n < m) (issued_count c s p) h) }

bound_commit : (c : Case) (s : State) (p k e : ℕ) → Bound c s → Bound c (committed c s p k e)
unfolding committed
bound_commit c s p k e b =
    let proc = committed_keeps c s p k e (λ (a : Action). a.proc) refl in
    let place = committed_keeps c s p k e (λ (a : Action). a.place) refl in
    let instr = committed_keeps c s p k e (λ (a : Action). a.instr) refl in
    let inputs = committed_keeps c s p k e (λ (a : Action). a.inputs) refl in
    record {
      registers = λ q r. named_same (record { proc = λ j h. proc j; instr = λ j h. instr j }) (b.registers q r);
      actions = λ n h. reads_same (record { proc = λ j h. proc j; instr = λ j h. instr j }) (proc n) (place n) (instr n) (inputs n) (b.actions n h);
    }

bound-initial : (c : Case) → Bound c (initial c)
bound-initial c = record { registers = λ p r. untouched (λ k l h. absurd (omega arith)); actions = λ n h. absurd (omega arith) }

module _ (c : Case) (ts : List Step) (e : State) (w : Leads (womm c) (initial c) ts e) where
  pub bound : Bound c e
  bound = always_after (womm c) (Bound c) (λ s t. by_step c (λ n. Bound c) (λ n s p I. bound_issue c s p I) (λ n s p k e T. bound_commit c s p k e) 0 s t) (bound-initial c) ts e w

-- a name of a register that is preset or assigned
origin : {c : Case} {s : State} {n p r : ℕ} {x : Name} → Given c p r → Named c s n p r x → Origin c s n p r x
origin {c} {s} {n} {p} {r} g (newest k h y u) = earlier k h y u
origin {c} {s} {n} {p} {r} g (untouched u) = from (preset_of c p r) refl g
  where
    from : (o : Option ℕ) → preset_of c p r ≡ o → Given c p r → Origin c s n p r (start o)
    from (some v) e g = preset v e u
    from none e g = ⊎_elim (λ w. absurd (nothing (sym e ∙ w.1))) (λ a. later e u a) g
      where
        size : Option ℕ → ℕ
        size none = 0
        size (some v) = 1

        nothing : {v : ℕ} → none ≡ some v → ⊥
        nothing q = absurd (omega (arith, ap size q))

-- After an accepted schedule of a sound case, every register that an issued action reads is bound to its preset, or to the newest earlier
-- action of its processor that assigns it, or to nothing; and then some instruction of its processor assigns it, and none has yet.
pub record Bindings (c : Case) (s : State) (n : ℕ) : Type 0 where
  pub names : ℕ → Name
  pub inputs : (s.actions n).inputs ≡ map names (reads (s.actions n).instr)
  pub origins : (r : ℕ) → Memᴰ r (reads (s.actions n).instr) → Origin c s n (s.actions n).proc r (names r)

pub reads-bound : (c : Case) → Formed c → Sound c → (ts : List Step) (s : State) → Leads (womm c) (initial c) ts s → (n : ℕ) → n < s.count → Bindings c s n
reads-bound c f h ts s w n l =
    let a = (bound c ts s w).actions n l in
    record {
      names = a.names;
      inputs = a.inputs;
      origins = λ r m. origin (sound_given c f h (s.actions n).proc (s.actions n).place r a.proc a.place (subst (λ (i : Instr). Memᴰ r (reads i)) a.instr m)) (a.named r);
    }
