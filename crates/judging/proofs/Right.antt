-- What is heard of a text, and that a text says one case. Assumes nothing.
use mathlib.Core.Path.{◌≡◌, refl, ap, sym, ◌∙◌, subst}
use mathlib.Core.Logic.{⊎_elim}
use mathlib.Core.Bool.{Bool, true, false, ◌&&◌, false≢true}
use mathlib.Core.List.{List, [], ◌∷◌, ◌++◌, map}
use mathlib.Core.Option.{Option, none, some}
use Prim.Native.Nat.{ℕ, suc, ◌+◌, ◌≤◌}
use native.Mathlib.Omega.{arith}
use lib.Dec.{eqb, leb}
use lib.ListN.{length, length-map}
use borrow.Author.Tests.{eqb-true, leb-true, le-leb}
use Rattle.words.specs.Small.{concat_map, or_zero}
use Rattle.words.proofs.Bools.{decide, and_both, and_make, cond-true, cond-false}
use Rattle.cases.specs.declared.Case.{Case}
use Rattle.texts.specs.Lines.{Line, head, lines_of}
use Rattle.texts.specs.Text.{body, line_bytes, text_with}
use Rattle.texts.specs.Reading.{Says}
use Rattle.judging.specs.Draft.{Draft, fresh, case_from}
use Rattle.judging.specs.Parse.{before, parts, taken, took, counted, walk, judge, whole_from, whole, verdict, answer_of, accepted_at, refused_at}
use Rattle.judging.specs.Heard.{Heard, said, unsaid}
use Rattle.judging.proofs.Small.{none-some, some_is}
use Rattle.judging.proofs.Finished.{lines_of_lem}
use Rattle.judging.proofs.Soundness.{proper_of}
use Rattle.judging.proofs.Parts.{ended, lines_bytes, parts_feed, parts_other}
use Rattle.judging.proofs.Judged.{judged, then_some, case_taken, Taken, text_parts, took_lined, lined_took, lined_made, run_keeps, head_facts, head_ok_lem}

-- the text's end

whole-ended : (p : List ℕ) (t : List ℕ) (e : Bool) → whole_from e (ended p ++ t) ≡ whole_from true t
unfolding whole_from
whole-ended [] t e = refl
whole-ended (b ∷ p) t e = whole-ended p t (eqb b 10)

whole_lines : (ps : List (List ℕ)) → whole (concat_map ended ps) ≡ true
unfolding whole_from
whole_lines [] = refl
whole_lines (p ∷ ps) = whole-ended p (concat_map ended ps) true ∙ whole_lines ps

whole_other : (b : ℕ) (t : List ℕ) (ps : List (List ℕ)) → whole_from false t ≡ true → t ≡ concat_map ended ps → b ∷ t ≡ concat_map ended (before b ps)
unfolding whole_from
whole_other b t [] h e = absurd (false≢true (sym (ap (whole_from false) e) ∙ h))
whole_other b t (p ∷ ps) h e = ap (λ (l : List ℕ). b ∷ l) e

whole_is : (t : List ℕ) (e : Bool) → whole_from e t ≡ true → t ≡ concat_map ended (parts t)
unfolding whole_from parts
whole_is [] e h = refl
whole_is (b ∷ t) e h =
    let more = whole_is t (eqb b 10) h in
    ⊎_elim
    (λ q. (λ j. eqb-true b 10 q j ∷ more j) ∙ sym (ap (concat_map ended) (parts_feed b t q)))
    (λ q. whole_other b t (parts t) (ap (λ (x : Bool). whole_from x t) (sym q) ∙ h) more ∙ sym (ap (concat_map ended) (parts_other b t q)))
    (decide (eqb b 10))

-- a case's text is taken to its end

module _ (t : List ℕ) (c : Case) (b : Option ℕ) (says : Says t c b) where
  pub said-took : (d : Draft) × Taken c b d × (took none (parts t) ≡ some d)
  said-took =
      let r = case_taken c b says.proper says.small in
      (r.0, r.1, ap (λ (t : List ℕ). took none (parts t)) says.same ∙ ap (took none) (text_parts c b) ∙ lined_took c.procs c.locs b _ r.0 (head_ok_lem c b says.proper says.small) r.1.runs)

  pub said-whole : whole t ≡ true
  unfolding text_with
  said-whole = ap whole (says.same ∙ lines_bytes (lines_of c b)) ∙ whole_lines (map body (lines_of c b))

-- One text is one case's text, in one form.
pub says_unique : (t : List ℕ) (c c' : Case) (b b' : Option ℕ) → Says t c b → Says t c' b' → (c ≡ c') × (b ≡ b')
says_unique t c c' b b' p q =
    let x = said-took t c b p in
    let y = said-took t c' b' q in
    let e : x.0 ≡ y.0 = some_is x.0 y.0 (sym x.2 ∙ y.2) in
    (sym x.1.case ∙ ap case_from e ∙ y.1.case, sym x.1.dropped ∙ ap (λ (d : Draft). d.dropped) e ∙ y.1.dropped)

-- a text that is taken to its end, with no label left open, is the text of the draft's case

taken_says : (t : List ℕ) (ps : List (List ℕ)) (d : Draft) → t ≡ concat_map ended ps → took none ps ≡ some d → d.need ≤ d.next → Says t (case_from d) d.dropped
unfolding took text_with
taken_says t [] d e h done = absurd (none-some h)
taken_says t (p ∷ ps) d e h done =
    let l = took_lined p ps d h in
    let made = lined_made (p ∷ ps) d l in
    let k = run_keeps l.lines (fresh l.procs l.locs l.bound) d l.runs in
    let heads : head l.procs l.locs l.bound ≡ head d.procs d.locs d.dropped = sym (λ j. head (k.procs j) (k.locs j) (k.dropped j)) in
    record {
      proper = proper_of d l.lines made done;
      small = subst (λ (b : Option ℕ). or_zero b ≤ 96) (sym k.dropped) (head_facts l.procs l.locs l.bound l.ok).4;
      same =
          e
          ∙ ap (concat_map ended) (l.same ∙ ap (λ (h : Line). map body (h ∷ l.lines)) heads)
          ∙ sym (lines_bytes (head d.procs d.locs d.dropped ∷ l.lines))
          ∙ sym (ap (concat_map line_bytes) (lines_of_lem d l.lines made d.dropped));
    }

-- a text that is taken to its end is taken line by line

walk-took : (ps : List (List ℕ)) (s : Option Draft) (n : ℕ) (d : Draft) → took s ps ≡ some d → walk s n ps ≡ n + length ps
unfolding walk took
walk-took [] s n d h = omega arith
walk-took (p ∷ ps) s n d h =
    let r = then_some (taken s p) (λ e. took (some e) ps) d h in
    ap (counted n (λ e. walk (some e) (suc n) ps)) r.1 ∙ walk-took ps (some r.0) (suc n) d r.2 ∙ omega arith

said-judge : (t : List ℕ) (c : Case) (b : Option ℕ) → Says t c b → judge t ≡ suc (length (lines_of c b))
said-judge t c b says =
    let k = said-took t c b says in
    let e = ap parts says.same ∙ text_parts c b in
    walk-took (parts t) none 1 k.0 k.2 ∙ omega (arith, ap length e, length-map (lines_of c b) body)

-- The answer is right.
pub heard : (t : List ℕ) → Heard t (answer_of t)
unfolding answer_of
heard t = go (took none (parts t)) refl
  where
    go : (o : Option Draft) → took none (parts t) ≡ o → Heard t (verdict (whole t) (judge t) o)
    go none e = unsaid (judge t) (λ c b s. none-some (sym e ∙ (said-took t c b s).2)) (judged t)
    go (some d) e = ⊎_elim yes no' (decide (whole t && leb d.need d.next))
      where
        yes : (whole t && leb d.need d.next) ≡ true → Heard t (verdict (whole t) (judge t) (some d))
        yes h =
            let r = and_both (whole t) (leb d.need d.next) h in
            let says = taken_says t (parts t) d (whole_is t true r.0) e (leb-true d.need d.next r.1) in
            let n = said-judge t (case_from d) d.dropped says in
            subst (Heard t) (sym (cond-true (whole t && leb d.need d.next) (accepted_at (judge t) d) (refused_at (judge t)) h ∙ (λ j. accepted_at (n j) d))) (said (case_from d) d.dropped says)

        no' : (whole t && leb d.need d.next) ≡ false → Heard t (verdict (whole t) (judge t) (some d))
        no' h =
            subst (Heard t) (sym (cond-false (whole t && leb d.need d.next) (accepted_at (judge t) d) (refused_at (judge t)) h))
            (unsaid (judge t) (λ c b s.
            let x = said-took t c b s in
            let q : x.0 ≡ d = some_is x.0 d (sym x.2 ∙ e) in
            absurd (false≢true (sym h ∙ and_make (whole t) (leb d.need d.next) (said-whole t c b s) (le-leb d.need d.next (subst (λ (d : Draft). d.need ≤ d.next) q x.1.done))))) (judged t))
