-- The lists of a store-buffer machine: one answer at most, and unmarked the same for every larger bound. Assumes nothing.
use mathlib.Core.Path.{◌≡◌, refl, sym, ◌∙◌, ap}
use mathlib.Core.Logic.{◌↔◌, ⊎_elim}
use mathlib.Core.Bool.{true, false, not, false≢true}
use mathlib.Core.List.{List, [], ◌∷◌}
use Prim.Native.Nat.{ℕ, zero, suc, ◌/◌, ◌≤◌, ◌<◌}
use native.Mathlib.Omega.{arith}
use lib.Dec.{eqb, leb}
use lib.ListN.{length}
use borrow.Author.Tests.{leb-true, leb-false, eqb-true, not-true}
use Rattle.words.specs.Small.{some_below}
use Rattle.words.proofs.Bools.{decide, and_both, all_at, fails, below_make}
use Rattle.cases.specs.declared.Case.{Case}
use Rattle.cases.specs.Case.{count_of}
use Rattle.runs.specs.Listing.{Listed, RecordsOf, AcceptedOf, IsListOf}
use Rattle.runs.proofs.Walk.{stop, go, walk, leads}
use Rattle.runs.proofs.Unique.{list_unique}
use Rattle.rules.proofs.Accepted.{counting_mem}
use Rattle.boards.specs.declared.Buffering.{Buffering}
use Rattle.boards.specs.Board.{Board, filled}
use Rattle.boards.specs.Machine.{Move, run, drain, allowed, ended, finished, registers, board}
use Rattle.boards.specs.Listing.{instructions, OutcomeFrom, CutFrom, Outcome, Cut, IsBoardList}
use Rattle.boards.proofs.Accepted.{Runs, code_allowed, can_run, can_drain}

-- a list whose outcomes and mark, where it is unmarked, are those of another
pub list_same : (O Q : List ℕ → Type 0) (C D : Type 0) (size : ℕ) (a : Listed) (out : List ℕ) → ((C → ⊥) → ((r : List ℕ) → O r ↔ Q r) × (D → ⊥))
    → a.code ≡ 0 → a.cut ≡ false → IsListOf O C size a out → IsListOf Q D size a out
list_same O Q C D size a out same ok unmarked x = record { records = x.records; right = right; fits = fits; full = λ g. absurd (room g) }
  where
    room : size / 96 < length x.records → ⊥
    room g = omega (arith, (x.full g).code)

    uncut : C → ⊥
    uncut d = ⊎_elim (λ g. false≢true (sym unmarked ∙ (x.fits (leb-true _ _ g)).cut.1 d)) (λ g. room (leb-false _ _ g)) (decide (leb (length x.records) (size / 96)))

    right : RecordsOf Q x.records
    right = let s = (same uncut).0 in record { sorted = x.right.sorted; members = λ r. (λ d. (s r).0 ((x.right.members r).0 d), λ o. (x.right.members r).1 ((s r).1 o)) }

    fits : length x.records ≤ size / 96 → AcceptedOf D size x.records a out
    fits g =
        let q = x.fits g in
        record { code = q.code; count = q.count; cut = (λ e. absurd (false≢true (sym unmarked ∙ e)), λ d. absurd ((same uncut).1 d)); bytes = q.bytes }

module _ (k : Buffering) (c : Case) where
  pub outcome_of : {b e : Board} {ms : List Move} {n : ℕ} {r : List ℕ} → Runs k c b ms e → instructions ms ≤ n → finished c e ≡ true → registers c e ≡ r → OutcomeFrom k c b n r
  outcome_of {b} {e} {ms} w s f g = record { moves = ms; end = e; short = s; leads = leads (board k c) w; done = f; gives = g }

  pub cut_of : {b e : Board} {ms : List Move} {n : ℕ} → Runs k c b ms e → instructions ms ≡ n → ended c e ≡ false → CutFrom k c b n
  cut_of {b} {e} {ms} w s f = record { moves = ms; end = e; exact = s; leads = leads (board k c) w; undone = f }

  pub outcome_run : {b : Board} {n : ℕ} {r : List ℕ} (o : OutcomeFrom k c b n r) → Runs k c b o.moves o.end
  outcome_run {b} o = walk (board k c) o.moves b o.end o.leads

  pub cut_run : {b : Board} {n : ℕ} (o : CutFrom k c b n) → Runs k c b o.moves o.end
  cut_run {b} o = walk (board k c) o.moves b o.end o.leads

  -- a processor that runs an instruction is not at its count
  pub unended : (b : Board) (p : ℕ) → allowed k c b (run p) ≡ true → ended c b ≡ false
  unfolding ended
  unended b p h =
      let R = can_run k c b p h in
      let low : p < c.procs = leb-false c.procs p R.low in
      fails false _
      (λ e. absurd (omega (arith, leb-false (count_of c p) (b.places p) R.inside, eqb-true (b.places p) (count_of c p) (all_at (λ q. eqb (b.places q) (count_of c q)) (counting_mem c.procs 0 p (omega arith) (omega (arith, low))) e))))
      refl

  -- A FINISHED BOARD makes no move
  pub finished_still : (b : Board) → finished c b ≡ true → (m : Move) → allowed k c b m ≡ false
  unfolding finished
  finished_still b h (run p) = fails false (allowed k c b (run p)) (λ a. sym (unended b p a) ∙ (and_both (ended c b) _ h).0) refl
  finished_still b h (drain p n) =
      fails false (allowed k c b (drain p n))
      (λ a.
      let D = can_drain k c b p n a in
      let empty = all_at (λ q. not (some_below c.locs (λ i. filled (b.buffers q i)))) (counting_mem c.procs 0 p (omega arith) (omega (arith, D.proc))) (and_both (ended c b) _ h).1 in
      sym (not-true _ empty) ∙ below_make c.locs (λ i. filled (b.buffers p i)) n D.buffer D.holds)
      refl

  -- a run of more than n instructions goes on after n of them
  pub prefix : (ms : List Move) (n : ℕ) {b e : Board} → Runs k c b ms e → n < instructions ms → CutFrom k c b n
  unfolding instructions
  prefix [] n w g = absurd (omega arith)
  prefix (run p ∷ ms) zero {b} (go h w) g = cut_of (stop refl) refl (unended b p (code_allowed k c b (run p) h))
  prefix (run p ∷ ms) (suc n) {b} (go h w) g =
      let r = prefix ms n w (omega arith) in
      cut_of (go h (cut_run r)) (ap suc r.exact) r.undone
  prefix (drain p m ∷ ms) n {b} (go h w) g =
      let r = prefix ms n w g in
      cut_of (go h (cut_run r)) r.exact r.undone

  module _ (n m : ℕ) (le : n ≤ m) where
    pub outcome_more : (r : List ℕ) → Outcome k c n r → Outcome k c m r
    outcome_more r o = outcome_of (outcome_run o) (omega (arith, o.short)) o.done o.gives

    module _ (uncut : Cut k c n → ⊥) where
      pub outcome_same : (r : List ℕ) → Outcome k c m r → Outcome k c n r
      outcome_same r o =
          ⊎_elim (λ h. outcome_of (outcome_run o) (leb-true _ _ h) o.done o.gives)
          (λ h. absurd (uncut (prefix o.moves n (outcome_run o) (leb-false _ _ h))))
          (decide (leb (instructions o.moves) n))

      pub uncut_more : Cut k c m → ⊥
      uncut_more x =
          ⊎_elim (λ h. uncut (cut_of (cut_run x) (omega (arith, x.exact, leb-true (instructions x.moves) n h)) x.undone))
          (λ h. uncut (prefix x.moves n (cut_run x) (leb-false _ _ h)))
          (decide (leb (instructions x.moves) n))

  -- UNMARKED, THE SAME for every larger bound, in the same buffer
  pub board-same : (n m size : ℕ) (a : Listed) (out : List ℕ) → n ≤ m → a.code ≡ 0 → a.cut ≡ false → IsBoardList k c n size a out → IsBoardList k c m size a out
  board-same n m size a out le = list_same (Outcome k c n) (Outcome k c m) (Cut k c n) (Cut k c m) size a out (λ u. (λ r. (outcome_more n m le r, outcome_same n m le u r), uncut_more n m le u))

  -- AT MOST ONE ANSWER
  pub board_unique : (n size : ℕ) (a b : Listed) (out buf : List ℕ) → IsBoardList k c n size a out → IsBoardList k c n size b buf → (a ≡ b) × (out ≡ buf)
  board_unique n = list_unique (Outcome k c n) (Cut k c n)
