-- An instruction of a board is an issue and a commit of the WOMM. Assumes nothing.
use mathlib.Core.Path.{◌≡◌, refl, sym, ◌∙◌, ap, ap₂, subst}
use mathlib.Core.Logic.{⊎_elim}
use mathlib.Core.Bool.{Bool, true, false, cond, not, ◌&&◌, false≢true}
use mathlib.Core.List.{List, [], ◌∷◌, map}
use mathlib.Core.Option.{Option, none}
use Prim.Native.Nat.{ℕ, zero, suc, ◌+◌, ◌<◌}
use lib.Dec.{eqb, leb}
use lib.ListN.{get_or}
use borrow.Author.Tests.{leb-false, lt-leb}
use Rattle.words.specs.Small.{is_none, or_zero, any}
use Rattle.words.proofs.Bools.{decide, or_none, cond-true}
use Rattle.cases.specs.Case.{count_of, instr_at}
use Rattle.cases.specs.declared.Case.{Case}
use Rattle.cases.specs.declared.Instr.{Instr}
use Rattle.cases.specs.declared.Instr.TheVariants.{Empty, Read, Write, Local, Branch, Goto, Acquire, Release}
use Rattle.rules.specs.Commit.{barred, visible, result_of, input}
use Rattle.rules.specs.Issue.{issued, next, here, address}
use Rattle.rules.specs.Kinds.{kind, reads, reading, accesses, syncs}
use Rattle.rules.specs.State.{State, value_of, start, item_value}
use Rattle.rules.proofs.Accepted.{CanIssue, CanCommit}
use Rattle.boards.specs.Board.{Board, seen}
use Rattle.boards.specs.Run.{instruction, operands_of, operand, yields}
use Rattle.boards.specs.declared.Buffering.{Buffering}
use Rattle.boards.proofs.Accepted.{CanRun, read_accesses, left_false, right_false, access_low}
use Rattle.inclusion.proofs.Mirror.{Mirror, known}
use Rattle.inclusion.proofs.Reading.{Source, source, worth_first, source_visible}
use Rattle.inclusion.proofs.Took.{input_same, commit_can}

-- an access has an address
address_known : (f : ℕ → Option ℕ) (i : Instr) → any is_none (map f (reads i)) ≡ false → (accesses (kind i) && is_none (get_or (map f (reads i)) 0 none)) ≡ false
address_known f Empty h = refl
address_known f (Read d a) h = (or_none (is_none (f a)) _ h).0
address_known f (Write a v) h = (or_none (is_none (f a)) _ h).0
address_known f (Local d e) h = refl
address_known f (Branch a l) h = refl
address_known f (Goto l) h = refl
address_known f (Acquire a) h = refl
address_known f (Release a) h = refl

module _ (k : Buffering) (c : Case) (b : Board) (s : State) (M : Mirror k c b s) (p : ℕ) (R : CanRun k c b p) where
  abbrev vals : ℕ → Option ℕ
  vals = b.values p

  abbrev next' : Instr
  next' = next c s p

  pub same_here : here c s p ≡ b.places p
  same_here = ap or_zero (M.places p)

  pub same_next : next c s p ≡ instruction k c b p
  same_next = ap (λ (h : ℕ). instr_at c p h) same_here

  operand_same : (rs : List ℕ) (n : ℕ) → value_of s (get_or (map (s.names p) rs) n (start none)) ≡ get_or (map vals rs) n none
  operand_same [] n = refl
  operand_same (r ∷ rs) zero = M.values p r
  operand_same (r ∷ rs) (suc n) = operand_same rs n

  pub same_address : address c s p ≡ get_or (operands_of k c b p) 0 none
  same_address = operand_same (reads next') 0 ∙ ap (λ (i : Instr). get_or (map vals (reads i)) 0 none) same_next

  -- a test of the next instruction, from the board's
  over : (P : Instr → Type 0) → P (instruction k c b p) → P next'
  over P h = subst P (sym same_next) h

  pub issue_can : s.count < 48 → CanIssue c s p
  issue_can room =
      record {
        proc = leb-false _ _ R.low;
        place = ap is_none (M.places p);
        inside = ap (leb (count_of c p)) same_here ∙ R.inside;
        room = lt-leb 48 s.count room;
        known = ap (λ (o : Option ℕ). accesses (kind next') && is_none o) (operand_same (reads next') 0) ∙ address_known vals next' (over (λ i. any is_none (map vals (reads i)) ≡ false) R.ready);
        low = ap (λ (o : Option ℕ). accesses (kind next') && leb c.locs (or_zero o)) (operand_same (reads next') 0) ∙ over (λ i. (accesses (kind i) && leb c.locs (or_zero (get_or (map vals (reads i)) 0 none))) ≡ false) (left_false (accesses (kind (instruction k c b p))) (syncs (kind (instruction k c b p))) _ R.near);
      }

  -- the source of the commit, and that it is accepted with the board's value
  pub record Commit : Type 0 where
    pub source : ℕ
    pub can : CanCommit c (issued c s p) p s.count source
    pub value : result_of c (issued c s p) p s.count source next' ≡ yields k c b p (instruction k c b p)

  module _ (e : ℕ) where
    pub same_input : (n : ℕ) → input c (issued c s p) p s.count e n ≡ operand k c b p n
    same_input n = input_same c s M.settled p e vals (M.values p) n ∙ ap (λ (i : Instr). or_zero (get_or (map vals (reads i)) n none)) same_next

    result_of_lem : (i : Instr) → (reading (kind i) ≡ true → or_zero (item_value c (issued c s p) e) ≡ seen k b p (operand k c b p 0)) → result_of c (issued c s p) p s.count e i ≡ yields k c b p i
    result_of_lem Empty f = refl
    result_of_lem (Read d a) f = f refl
    result_of_lem (Write a v) f = same_input 1
    result_of_lem (Local d x) f = rw (same_input 0, same_input 1)
    result_of_lem (Branch a l) f = refl
    result_of_lem (Goto l) f = refl
    result_of_lem (Acquire a) f = same_input 0
    result_of_lem (Release a) f = same_input 0

    commit-made :
        (not (eqb e 0) && not (reading (kind next'))) ≡ false
        → (reading (kind next') && not (visible c (issued c s p) (cond (accesses (kind next')) (or_zero (address c s p)) 0) (8 + s.count) e)) ≡ false
        → (reading (kind next') ≡ true → or_zero (item_value c (issued c s p) e) ≡ seen k b p (operand k c b p 0))
        → Commit
    commit-made pl se va =
        record {
          source = e;
          can =
              commit_can c s M.settled p e vals (M.values p) (leb-false _ _ R.low)
              (over (λ i. any is_none (map vals (reads i)) ≡ false) R.ready)
              pl
              (over (λ i. (syncs (kind i) && leb c.locs (or_zero (get_or (map vals (reads i)) 0 none))) ≡ false) (right_false (accesses (kind (instruction k c b p))) (syncs (kind (instruction k c b p))) _ R.near))
              (over (λ i. barred p (kind i) (s.holders (or_zero (get_or (map vals (reads i)) 0 none))) ≡ false) (ap (barred p (kind (instruction k c b p))) (M.holders (operand k c b p 0)) ∙ R.free))
              se;
          value = result_of_lem next' va ∙ ap (yields k c b p) same_next;
        }

  pub commit : Commit
  commit = ⊎_elim reads' plain (decide (reading (kind next')))
    where
      plain : reading (kind next') ≡ false → Commit
      plain h = commit-made 0 refl (rw h) (λ x. absurd (false≢true (sym h ∙ x)))

      reads' : reading (kind next') ≡ true → Commit
      reads' h =
          let l : ℕ = operand k c b p 0 in
          let acc : accesses (kind next') ≡ true = read_accesses (kind next') h in
          let low : l < c.locs = access_low k c b p R (ap (λ (i : Instr). accesses (kind i)) (sym same_next) ∙ acc) in
          let S : Source k c b s p l = source k c b s M p l low in
          let place : cond (accesses (kind next')) (or_zero (address c s p)) 0 ≡ l = cond-true _ _ _ acc ∙ ap or_zero same_address in
          commit-made S.item
          (ap (λ (x : Bool). not (eqb S.item 0) && not x) h ∙ and_no (not (eqb S.item 0)))
          (ap₂ (λ (x : Bool) (y : ℕ). x && not (visible c (issued c s p) y (8 + s.count) S.item)) h place ∙ ap not (source_visible k c b s M p l S))
          (λ x. ap or_zero (worth_first k c b s M p l S))
        where
          and_no : (x : Bool) → (x && false) ≡ false
          and_no true = refl
          and_no false = refl
