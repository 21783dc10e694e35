-- The reader's walk over the lines of a text. Assumes nothing.
use mathlib.Core.Path.{◌≡◌, refl, ap, sym, ◌∙◌, subst}
use mathlib.Core.Logic.{⊎_elim}
use mathlib.Core.Bool.{Bool, true, false, cond}
use mathlib.Core.List.{List, [], ◌∷◌}
use mathlib.Core.Option.{Option, none, some}
use Prim.Native.Nat.{ℕ, suc, ◌+◌, ◌*◌, ◌-◌, ◌<◌, ◌≤◌}
use native.Mathlib.Omega.{arith}
use native.Mathlib.Numerals.{add-one}
use lib.Dec.{leb}
use lib.ListN.{length, drop, drop_of_length-le}
use borrow.Author.Tests.{le-leb, lt-leb}
use Rattle.judging.specs.Draft.{Draft, and_then}
use Rattle.texts.specs.Text.{spaced}
use Rattle.lines.specs.Decimal.{digits_within}
use Rattle.judging.specs.Heard.{Heard}
use Rattle.judging.specs.Parse.{parts, words_in, value_from, parse, taken, took, walk, counted, judge, whole, verdict, answer_of, refused_at, accepted_at}
use Rattle.drafting.specs.Sheet.{Shows, Holds}
use Rattle.scanning.specs.Found.{Found, part}
use Rattle.reading.specs.Walks.{Walk}
use Rattle.drafting.specs.declared.Sheet.{Sheet}
use Rattle.std.specs.Prelude.{Some, None}
use Rattle.std.proofs.Common as std
use Rattle.texts.specs.declared.TextRead.{TextRead}
use Rattle.judging.proofs.Small.{none-some, same?}
use Rattle.scanning.proofs.Scanning.{part_none}
use Rattle.reading.proofs.Feeds.{parts_at, parts_end, whole_at, whole-none, nil-parts, nil-whole}
use Rattle.judging.proofs.Right.{heard}

-- The lines up to position at are taken: those that are left decide.
pub record Going (t : List ℕ) (at n : ℕ) (sheet : std.Option Sheet) : Type 0 where
  pub draft : Option Draft
  pub holds : Holds sheet draft
  pub inside : at ≤ length t
  pub few : 2 * n ≤ at + 2
  pub lines : took none (parts t) ≡ took draft (parts (drop at t))
  pub line : judge t ≡ walk draft n (parts (drop at t))
  pub end : whole t ≡ whole (drop at t)

pub going_start : (t : List ℕ) → Going t 0 1 None
going_start t = record { draft = none; holds = tt; inside = omega arith; few = omega arith; lines = refl; line = refl; end = refl }

-- an empty line is not taken
no_line : (o : Option Draft) → taken o [] ≡ none
unfolding parse words_in value_from spaced digits_within
no_line o = refl

holds_none : (o : Option Draft) → Holds None o → o ≡ none
holds_none none h = refl
holds_none (some d) h = absurd h

holds_some : (s : Sheet) (o : Option Draft) → Holds (Some s) o → (d : Draft) × (o ≡ some d) × Shows s d
holds_some s none h = absurd h
holds_some s (some d) h = (d, refl, h)

verdict_open : (w : Bool) (n : ℕ) (o : Option Draft) → w ≡ false → verdict w n o ≡ refused_at n
verdict_open w n none h = refl
verdict_open w n (some d) h = ap (λ (w : Bool). verdict w n (some d)) h

-- the answer, from its three parts
answer_by : (t : List ℕ) (w : Bool) (n : ℕ) (o : Option Draft) → whole t ≡ w → judge t ≡ n → took none (parts t) ≡ o → answer_of t ≡ verdict w n o
unfolding answer_of
answer_by t w n o a b c = λ j. verdict (a j) (b j) (c j)

took-nil : (o : Option Draft) (l : List (List ℕ)) → l ≡ [] → took o l ≡ o
unfolding took
took-nil o l h = ap (took o) h

walk-nil : (o : Option Draft) (n : ℕ) (l : List (List ℕ)) → l ≡ [] → walk o n l ≡ n
unfolding walk
walk-nil o n l h = ap (walk o n) h

took_line : (o r : Option Draft) (p : List ℕ) (l ps : List (List ℕ)) → l ≡ p ∷ ps → taken o p ≡ r → took o l ≡ and_then r (λ d. took (some d) ps)
unfolding took
took_line o r p l ps h e = ap (took o) h ∙ ap (λ (r : Option Draft). and_then r (λ d. took (some d) ps)) e

walk_line : (o r : Option Draft) (n : ℕ) (p : List ℕ) (l ps : List (List ℕ)) → l ≡ p ∷ ps → taken o p ≡ r → walk o n l ≡ counted n (λ d. walk (some d) (suc n) ps) r
unfolding walk
walk_line o r n p l ps h e = ap (walk o n) h ∙ ap (λ (r : Option Draft). counted n (λ d. walk (some d) (suc n) ps) r) e

module _ (t : List ℕ) (at n : ℕ) (sheet : std.Option Sheet) (g : Going t at n sheet) where
  -- the last piece is not ended
  pub unended : (e : ℕ) → Found 10 t at e → length t ≤ e → at < length t → answer_of t ≡ refused_at n
  unended e f h l =
      let z = parts_end (e - at) t at e refl h f in
      let w = g.end ∙ whole-none (e - at) t at e true refl h f (λ q. absurd (omega arith)) in
      answer_by t false n g.draft w (g.line ∙ walk-nil g.draft n (parts (drop at t)) z) (g.lines ∙ took-nil g.draft (parts (drop at t)) z) ∙ verdict_open false n g.draft refl

  -- a line is not taken
  pub untaken : (e : ℕ) → Found 10 t at e → e < length t → Holds None (taken g.draft (part at e t)) → answer_of t ≡ refused_at n
  untaken e f h o =
      let z = parts_at (e - at) t at e refl h f in
      let no_draft = holds_none (taken g.draft (part at e t)) o in
      answer_by t (whole t) n none refl (g.line ∙ walk_line g.draft none n (part at e t) (parts (drop at t)) (parts (drop (e + 1) t)) z no_draft) (g.lines ∙ took_line g.draft none (part at e t) (parts (drop at t)) (parts (drop (e + 1) t)) z no_draft)

  -- a line is taken
  pub going_on : (e : ℕ) (s : Sheet) → Found 10 t at e → e < length t → Holds (Some s) (taken g.draft (part at e t)) → Going t (e + 1) (n + 1) (Some s)
  going_on e s f h o =
      let z = parts_at (e - at) t at e refl h f in
      let y = holds_some s (taken g.draft (part at e t)) o in
      let lo = f.low in
      let fw = g.few in
      let more : (at ≡ e → ⊥) = λ (same : at ≡ e). none-some (sym (no_line g.draft) ∙ ap (taken g.draft) (sym (part_none at e t (omega arith))) ∙ y.1) in
      let far : at < e = ⊎_elim (λ same. absurd (more same)) (λ (other : at ≡ e → ⊥). lt_of at e lo other) (same? at e) in
      record {
        draft = some y.0;
        holds = y.2;
        inside = omega arith;
        few = omega arith;
        lines = g.lines ∙ took_line g.draft (some y.0) (part at e t) (parts (drop at t)) (parts (drop (e + 1) t)) z y.1;
        line = g.line ∙ walk_line g.draft (some y.0) n (part at e t) (parts (drop at t)) (parts (drop (e + 1) t)) z y.1 ∙ ap (λ (m : ℕ). walk (some y.0) m (parts (drop (e + 1) t))) (sym (add-one n));
        end = g.end ∙ whole_at (e - at) t at e true refl h f;
      }
    where
      lt_of : (a b : ℕ) → a ≤ b → (a ≡ b → ⊥) → a < b
      lt_of a b h f = omega arith

  -- the end of the text
  ended : length t ≤ at → (o : Option Draft) → g.draft ≡ o → (took none (parts t) ≡ o) × (judge t ≡ n) × (whole t ≡ true)
  ended h o e =
      let z : drop at t ≡ [] = drop_of_length-le t {i = at} h in
      let y : parts (drop at t) ≡ [] = nil-parts (drop at t) z in
      (g.lines ∙ took-nil g.draft (parts (drop at t)) y ∙ e, g.line ∙ walk-nil g.draft n (parts (drop at t)) y, g.end ∙ nil-whole (drop at t) z)

pub ended_none : (t : List ℕ) (at n : ℕ) (sheet : std.Option Sheet) → Going t at n sheet → length t ≤ at → sheet ≡ None → answer_of t ≡ refused_at n
ended_none t at n sheet g h e =
    let all = ended t at n sheet g h none (holds_none g.draft (subst (λ (s : std.Option Sheet). Holds s g.draft) e g.holds)) in
    answer_by t true n none all.2 all.1 all.0

pub ended_some : (t : List ℕ) (at n : ℕ) (sheet : std.Option Sheet) (s : Sheet) → Going t at n sheet → length t ≤ at → sheet ≡ Some s → Walk t n s
ended_some t at n sheet s g h e =
    let y = holds_some s g.draft (subst (λ (s : std.Option Sheet). Holds s g.draft) e g.holds) in
    let all = ended t at n sheet g h (some y.0) y.1 in
    record { draft = y.0; took = all.0; whole = all.2; line = all.1; shows = y.2 }

-- what is heard

heard_as : (t : List ℕ) (r : TextRead) → answer_of t ≡ r → Heard t r
heard_as t r e = subst (Heard t) e (heard t)

pub hear_not : (t : List ℕ) (n : ℕ) (r : TextRead) → answer_of t ≡ refused_at n → r ≡ refused_at n → Heard t r
hear_not t n r a q = heard_as t r (a ∙ sym q)

module _ (t : List ℕ) (n : ℕ) (s : Sheet) (r : TextRead) (w : Walk t n s) where
  by_labels : (x : Bool) → leb w.draft.need w.draft.next ≡ x → answer_of t ≡ cond x (accepted_at n w.draft) (refused_at n)
  by_labels x f = answer_by t true n (some w.draft) w.whole w.line w.took ∙ ap (λ (x : Bool). cond x (accepted_at n w.draft) (refused_at n)) f

  pub hear_open : s.next < s.need → r ≡ refused_at n → Heard t r
  hear_open h q =
      let a = w.shows.next in
      let b = w.shows.need in
      heard_as t r (by_labels false (lt-leb w.draft.need w.draft.next (omega arith)) ∙ sym q)

  pub hear_all : s.need ≤ s.next → ((d : Draft) → Shows s d → r ≡ accepted_at n d) → Heard t r
  hear_all h q =
      let a = w.shows.next in
      let b = w.shows.need in
      heard_as t r (by_labels true (le-leb w.draft.need w.draft.next (omega arith)) ∙ sym (q w.draft w.shows))
