-- The judge's number is the first bad line of the text. Assumes nothing.
use mathlib.Core.Path.{◌≡◌, refl, ap, sym, ◌∙◌, subst}
use mathlib.Core.Logic.{⊎_elim}
use mathlib.Core.Bool.{true}
use mathlib.Core.List.{List, [], ◌∷◌, ◌++◌, map, append-nil}
use mathlib.Core.Option.{Option, none, some}
use Prim.Native.Nat.{ℕ, zero, suc, ◌+◌, ◌*◌, ◌-◌, ◌<◌, ◌≤◌}
use native.Mathlib.Omega.{arith}
use lib.Dec.{ltb, leb}
use lib.ListN.{length, take}
use borrow.Author.Tests.{ltb-true, leb-true, lt-ltb, le-leb}
use Rattle.words.specs.Small.{concat_map, or_zero}
use Rattle.words.proofs.Bools.{cond-true}
use Rattle.words.proofs.Lists.{concat_map-append}
use Rattle.cases.specs.declared.Case.{Case}
use Rattle.texts.specs.Lines.{Line, head, mem, reg, op, mem_lines, reg_lines, op_lines, lines_of}
use Rattle.texts.specs.Text.{body, line_bytes, text_with}
use Rattle.texts.specs.Reading.{Proper, Begins, Passes, FirstBad}
use Rattle.judging.specs.Draft.{Draft, fresh, with_mem, with_reg, with_op, mem_ok, reg_ok, op_ok, head_ok, from, step, begin, run, and_then, case_from}
use Rattle.judging.specs.Parse.{parts, parse, taken, took, counted, walk, judge}
use Rattle.judging.proofs.Small.{none-some, cond-some, some_is, and5, make5, below?}
use Rattle.judging.proofs.Made.{Made, made_fresh}
use Rattle.judging.proofs.Runs.{run_one, run-front, run_made, settled}
use Rattle.judging.proofs.Reach.{reached}
use Rattle.judging.proofs.Finished.{lines_of_lem, case_of}
use Rattle.judging.proofs.Bridge.{good_case, exact_case}
use Rattle.judging.proofs.Soundness.{proper_of}
use Rattle.judging.proofs.Words.{parse-body, parse_is, fits_begin, fits_step}
use Rattle.judging.proofs.Parts.{ended, feeds-parts, up_to-parts, parts_free, take_free, parts-append, bodies_free, lines_bytes, map-front}

pub then_some : {A B : Type 0} (o : Option A) (f : A → Option B) (b : B) → and_then o f ≡ some b → (a : A) × (o ≡ some a) × (f a ≡ some b)
then_some none f b h = absurd (none-some h)
then_some (some a) f b h = (a, refl, h)

then_is : {A B : Type 0} (o : Option A) (f : A → Option B) (a : A) → o ≡ some a → and_then o f ≡ f a
then_is o f a h = ap (λ (o : Option _). and_then o f) h

-- a line keeps the first line's numbers
pub record Kept (d e : Draft) : Type 0 where
  pub procs : e.procs ≡ d.procs
  pub locs : e.locs ≡ d.locs
  pub dropped : e.dropped ≡ d.dropped

step_keeps : (d e : Draft) (l : Line) → step d l ≡ some e → Kept d e
step_keeps d e (head p m b) h = absurd (none-some h)
step_keeps d e (mem l v) h = let r = (cond-some (mem_ok d l v) (with_mem d l v) e h).1 in record { procs = ap (λ (d : Draft). d.procs) (sym r); locs = ap (λ (d : Draft). d.locs) (sym r); dropped = ap (λ (d : Draft). d.dropped) (sym r) }
step_keeps d e (reg p k v) h = let r = (cond-some (reg_ok d p k v) (with_reg d (8 * p + k) v) e h).1 in record { procs = ap (λ (d : Draft). d.procs) (sym r); locs = ap (λ (d : Draft). d.locs) (sym r); dropped = ap (λ (d : Draft). d.dropped) (sym r) }
step_keeps d e (op p x) h = let r = (cond-some (op_ok d p (d.next - from p) x) (with_op d p (d.next - from p) x) e h).1 in record { procs = ap (λ (d : Draft). d.procs) (sym r); locs = ap (λ (d : Draft). d.locs) (sym r); dropped = ap (λ (d : Draft). d.dropped) (sym r) }

pub run_keeps : (ls : List Line) (d e : Draft) → run d ls ≡ some e → Kept d e
unfolding run
run_keeps [] d e h = let q : d ≡ e = some_is d e h in record { procs = ap (λ (d : Draft). d.procs) (sym q); locs = ap (λ (d : Draft). d.locs) (sym q); dropped = ap (λ (d : Draft). d.dropped) (sym q) }
run_keeps (l ∷ ls) d e h =
    let r = then_some (step d l) (λ f. run f ls) e h in
    let a = step_keeps d r.0 l r.1 in
    let b = run_keeps ls r.0 e r.2 in
    record { procs = b.procs ∙ a.procs; locs = b.locs ∙ a.locs; dropped = b.dropped ∙ a.dropped }

-- bytes and lines: further lines

took-run : (ps : List (List ℕ)) (d e : Draft) → took (some d) ps ≡ some e → (ls : List Line) × (ps ≡ map body ls) × (run d ls ≡ some e)
unfolding took run
took-run [] d e h = ([], refl, h)
took-run (p ∷ ps) d e h =
    let r = then_some (taken (some d) p) (λ f. took (some f) ps) e h in
    let q = then_some (parse p) (step d) r.0 r.1 in
    let more = took-run ps r.0 e r.2 in
    (q.0 ∷ more.0, (λ j. parse_is p q.0 q.1 j ∷ more.1 j), run_one d r.0 q.0 more.0 q.2 ∙ more.2)

run-took : (ls : List Line) (d e : Draft) → d.procs ≤ 4 → d.locs ≤ 8 → run d ls ≡ some e → took (some d) (map body ls) ≡ some e
unfolding took run
run-took [] d e hp hl h = h
run-took (l ∷ ls) d e hp hl h =
    let r = then_some (step d l) (λ f. run f ls) e h in
    let k = step_keeps d r.0 l r.1 in
    let one : taken (some d) (body l) ≡ some r.0 = then_is (parse (body l)) (step d) l (parse-body l (fits_step d r.0 l hp hl r.1)) ∙ r.1 in
    then_is (taken (some d) (body l)) (λ f. took (some f) (map body ls)) r.0 one
    ∙ run-took ls r.0 e (omega (arith, k.procs)) (omega (arith, k.locs)) r.2

-- all of the lines

pub record Lined (ps : List (List ℕ)) (e : Draft) : Type 0 where
  pub procs : ℕ
  pub locs : ℕ
  pub bound : Option ℕ
  pub lines : List Line
  pub ok : head_ok procs locs bound ≡ true
  pub same : ps ≡ map body (head procs locs bound ∷ lines)
  pub runs : run (fresh procs locs bound) lines ≡ some e

pub took_lined : (q : List ℕ) (qs : List (List ℕ)) (e : Draft) → took none (q ∷ qs) ≡ some e → Lined (q ∷ qs) e
unfolding took
took_lined q qs e h =
    let r = then_some (taken none q) (λ f. took (some f) qs) e h in
    let p = then_some (parse q) begin r.0 r.1 in
    let more = took-run qs r.0 e r.2 in
    go p.0 r.0 (parse_is q p.0 p.1) p.2 more.0 more.1 more.2
  where
    go : (l : Line) (d : Draft) → q ≡ body l → begin l ≡ some d → (ls : List Line) → qs ≡ map body ls → run d ls ≡ some e → Lined (q ∷ qs) e
    go (head p m b) d s h ls t w =
        let c = cond-some (head_ok p m b) (fresh p m b) d h in
        record { procs = p; locs = m; bound = b; lines = ls; ok = c.0; same = λ j. s j ∷ t j; runs = ap (λ (x : Draft). run x ls) c.1 ∙ w }
    go (mem l v) d s h ls t w = absurd (none-some h)
    go (reg p k v) d s h ls t w = absurd (none-some h)
    go (op p x) d s h ls t w = absurd (none-some h)

pub head_facts : (p m : ℕ) (b : Option ℕ) → head_ok p m b ≡ true → (1 ≤ p) × (p ≤ 4) × (1 ≤ m) × (m ≤ 8) × (or_zero b ≤ 96)
head_facts p m b h =
    let r = and5 (ltb 0 p) (ltb p 5) (ltb 0 m) (ltb m 9) (leb (or_zero b) 96) h in
    (omega (arith, ltb-true 0 p r.0), omega (arith, ltb-true p 5 r.1), omega (arith, ltb-true 0 m r.2), omega (arith, ltb-true m 9 r.3), leb-true (or_zero b) 96 r.4)

pub lined_took : (p m : ℕ) (b : Option ℕ) (ls : List Line) (e : Draft) → head_ok p m b ≡ true → run (fresh p m b) ls ≡ some e → took none (map body (head p m b ∷ ls)) ≡ some e
unfolding took
lined_took p m b ls e ok h =
    let f = head_facts p m b ok in
    let first : begin (head p m b) ≡ some (fresh p m b) = cond-true (head_ok p m b) (some (fresh p m b)) none ok in
    let one : taken none (body (head p m b)) ≡ some (fresh p m b) = then_is (parse (body (head p m b))) begin (head p m b) (parse-body (head p m b) (fits_begin (head p m b) (fresh p m b) first)) ∙ first in
    then_is (taken none (body (head p m b))) (λ f. took (some f) (map body ls)) (fresh p m b) one
    ∙ run-took ls (fresh p m b) e f.1 f.3 h

-- what the lines of a draft say

module _ (ps : List (List ℕ)) (e : Draft) (lined : Lined ps e) where
  pub lined_made : Made e lined.lines
  lined_made = let f = head_facts lined.procs lined.locs lined.bound lined.ok in run_made (fresh lined.procs lined.locs lined.bound) e [] lined.lines (made_fresh lined.procs lined.locs lined.bound f.0 f.1 f.2 f.3) lined.runs

  -- some case's text begins with them
  pub lined_begins : Begins (concat_map ended ps)
  unfolding text_with
  lined_begins =
      let made = lined_made in
      let s = settled e lined.lines made in
      let z = s.last in
      let whole = run_made e z lined.lines s.more made s.runs in
      let ks = run_keeps s.more e z s.runs in
      let kl = run_keeps lined.lines (fresh lined.procs lined.locs lined.bound) e lined.runs in
      let b = lined.bound in
      let heads : head z.procs z.locs b ≡ head lined.procs lined.locs b = λ j. head ((ks.procs ∙ kl.procs) j) ((ks.locs ∙ kl.locs) j) b in
      let all : lines_of (case_from z) b ≡ (head lined.procs lined.locs b ∷ lined.lines) ++ s.more = lines_of_lem z (lined.lines ++ s.more) whole b ∙ (λ j. heads j ∷ (lined.lines ++ s.more)) in
      record {
        more = concat_map line_bytes s.more;
        case = case_from z;
        bound = b;
        says = record {
          proper = proper_of z (lined.lines ++ s.more) whole s.done;
          small = (head_facts lined.procs lined.locs lined.bound lined.ok).4;
          same =
              ap (λ (t : List ℕ). t ++ concat_map line_bytes s.more) (ap (concat_map ended) lined.same ∙ sym (lines_bytes (head lined.procs lined.locs b ∷ lined.lines)))
              ∙ sym (concat_map-append line_bytes (head lined.procs lined.locs b ∷ lined.lines) s.more)
              ∙ sym (ap (concat_map line_bytes) all);
        };
      }

-- the lines of a case

pub record Taken (c : Case) (bound : Option ℕ) (d : Draft) : Type 0 where
  pub runs : run (fresh c.procs c.locs bound) (mem_lines c ++ (reg_lines c ++ op_lines c)) ≡ some d
  pub done : d.need ≤ d.next
  pub case : case_from d ≡ c
  pub dropped : d.dropped ≡ bound

pub head_ok_lem : (c : Case) (b : Option ℕ) → Proper c → or_zero b ≤ 96 → head_ok c.procs c.locs b ≡ true
head_ok_lem c b proper small =
    let g = good_case c proper in
    make5 (ltb 0 c.procs) (ltb c.procs 5) (ltb 0 c.locs) (ltb c.locs 9) (leb (or_zero b) 96) (lt-ltb 0 c.procs (omega (arith, g.procs.0))) (lt-ltb c.procs 5 (omega (arith, g.procs.1))) (lt-ltb 0 c.locs (omega (arith, g.locs.0))) (lt-ltb c.locs 9 (omega (arith, g.locs.1))) (le-leb (or_zero b) 96 small)

pub case_taken : (c : Case) (b : Option ℕ) → Proper c → or_zero b ≤ 96 → (d : Draft) × Taken c b d
case_taken c b proper small =
    let g = good_case c proper in
    let r = reached c g b in
    let ok = head_ok_lem c b proper small in
    let made = run_made (fresh c.procs c.locs b) r.last [] _ (made_fresh c.procs c.locs b g.procs.0 g.procs.1 g.locs.0 g.locs.1) r.runs in
    (r.last, record { runs = r.runs; done = r.done; case = case_of c g (exact_case c proper) b r _ made; dropped = (run_keeps _ (fresh c.procs c.locs b) r.last r.runs).dropped })

nothing_more : (l : List (List ℕ)) → l ++ parts [] ≡ l
unfolding parts
nothing_more l = append-nil l

pub text_parts : (c : Case) (b : Option ℕ) → parts (text_with b c) ≡ map body (lines_of c b)
unfolding text_with
text_parts c b =
    let ls = lines_of c b in
    ap parts (lines_bytes ls ∙ sym (append-nil (concat_map ended (map body ls)))) ∙ parts-append (map body ls) [] (bodies_free ls) ∙ nothing_more (map body ls)

-- Line n + 1 passes exactly if the judge takes the lines up to it.
pub passes_took : (t : List ℕ) (n : ℕ) → Passes t (suc n) → (d : Draft) × (took none (take (suc n) (parts t)) ≡ some d)
passes_took t n h =
    let long : suc n ≤ length (parts t) = omega (arith, h.ended, feeds-parts t) in
    let b = h.begins in
    let qs = take (suc n) (parts t) in
    let e = sym (parts-append qs b.more (take_free (suc n) (parts t) (parts_free t))) ∙ ap (λ (x : List ℕ). parts (x ++ b.more)) (sym (up_to-parts t (suc n) long)) ∙ ap parts b.says.same ∙ text_parts b.case b.bound in
    let f = map-front body qs (parts b.more) (lines_of b.case b.bound) e in
    go (parts t) long f.0 f.1 f.2 f.3
  where
    c : Case
    c = h.begins.case

    o : Option ℕ
    o = h.begins.bound

    go : (ps : List (List ℕ)) → suc n ≤ length ps → (xs ys : List Line) → lines_of c o ≡ xs ++ ys → take (suc n) ps ≡ map body xs → (d : Draft) × (took none (take (suc n) ps) ≡ some d)
    go [] l xs ys p q = absurd (omega arith)
    go (w ∷ ps) l [] ys p q = absurd (let z : ◌≡◌ {A = ℕ} (suc (length (take n ps))) 0 = ap length q in omega arith)
    go (w ∷ ps) l (x ∷ xs) ys p q =
        let k = case_taken c o h.begins.says.proper h.begins.says.small in
        let first : head c.procs c.locs o ≡ x = cc in
        let rest : mem_lines c ++ (reg_lines c ++ op_lines c) ≡ xs ++ ys = cc in
        let r = run-front (fresh c.procs c.locs o) k.0 xs ys (ap (run (fresh c.procs c.locs o)) (sym rest) ∙ k.1.runs) in
        let whole = lined_took c.procs c.locs o xs r.0 (head_ok_lem c o h.begins.says.proper h.begins.says.small) r.1 in
        (r.0, ap (took none) (q ∙ (λ j. body (sym first j) ∷ map body xs)) ∙ whole)

pub took_passes : (t : List ℕ) (n : ℕ) (d : Draft) → suc n ≤ length (parts t) → took none (take (suc n) (parts t)) ≡ some d → Passes t (suc n)
took_passes t n d long h = record { ended = omega (arith, feeds-parts t); begins = subst Begins (sym (up_to-parts t (suc n) long)) (go (parts t) long h) }
  where
    go : (ps : List (List ℕ)) → suc n ≤ length ps → took none (take (suc n) ps) ≡ some d → Begins (concat_map ended (take (suc n) ps))
    go [] l q = absurd (omega arith)
    go (w ∷ ps) l q = lined_begins (w ∷ take n ps) d (took_lined w (take n ps) d q)

-- where the walk stops

record Stops (s : Option Draft) (ps : List (List ℕ)) (j : ℕ) : Type 0 where
  inside : j ≤ length ps
  front : (k : ℕ) → k < j → (d : Draft) × (took s (take (suc k) ps) ≡ some d)
  after : j < length ps → took s (take (suc j) ps) ≡ none

walk_stops : (ps : List (List ℕ)) (s : Option Draft) (n : ℕ) → (j : ℕ) × (walk s n ps ≡ n + j) × Stops s ps j
unfolding walk took
walk_stops [] s n = (0, omega arith, record { inside = omega arith; front = λ k h. absurd (omega arith); after = λ h. absurd (omega arith) })
walk_stops (p ∷ ps) s n = go (taken s p) refl (λ d. walk_stops ps (some d) (suc n))
  where
    go : (o : Option Draft) → taken s p ≡ o → ((d : Draft) → (j : ℕ) × (walk (some d) (suc n) ps ≡ suc n + j) × Stops (some d) ps j) → (j : ℕ) × (counted n (λ d. walk (some d) (suc n) ps) (taken s p) ≡ n + j) × Stops s (p ∷ ps) j
    go none e more = (0, ap (counted n (λ d. walk (some d) (suc n) ps)) e ∙ omega arith, record { inside = omega arith; front = λ k h. absurd (omega arith); after = λ h. ap (λ (o : Option Draft). and_then o (λ d. took (some d) [])) e })
    go (some d) e more =
        let m = more d in (
          suc m.0,
          ap (counted n (λ d. walk (some d) (suc n) ps)) e ∙ m.1 ∙ omega arith,
          record {
            inside = omega (arith, m.2.inside);
            front = λ k h. front m.0 m.2 k h;
            after = λ h. ap (λ (o : Option Draft). and_then o (λ d. took (some d) (take (suc m.0) ps))) e ∙ m.2.after (omega arith);
          },
        )
      where
        front : (j : ℕ) → Stops (some d) ps j → (k : ℕ) → k < suc j → (f : Draft) × (took s (take (suc k) (p ∷ ps)) ≡ some f)
        front j m zero h = (d, ap (λ (o : Option Draft). and_then o (λ d. took (some d) [])) e)
        front j m (suc k) h = let r = m.front k (omega arith) in (r.0, ap (λ (o : Option Draft). and_then o (λ d. took (some d) (take (suc k) ps))) e ∙ r.1)

-- The judge's number is the first bad line: no case's text begins with the text up to its end, and it is the first such.
pub judged : (t : List ℕ) → FirstBad t (judge t)
judged t =
    let r = walk_stops (parts t) none 1 in
    let j = r.0 in
    let s = r.2 in
    let e : suc j ≡ judge t = omega (arith, r.1) in
    subst (FirstBad t) e (record {
      one = omega arith;
      before = λ k a b. passing j s k a b;
      bad = λ h. let q = passes_took t j h in absurd (none-some (sym (s.after (omega (arith, h.ended, feeds-parts t))) ∙ q.1));
    })
  where
    passing : (j : ℕ) → Stops none (parts t) j → (k : ℕ) → 1 ≤ k → k < suc j → Passes t k
    passing j s zero a b = absurd (omega arith)
    passing j s (suc k) a b = let r = s.front k (omega arith) in took_passes t k r.0 (omega (arith, s.inside)) r.1

-- At most one line is the first bad one.
pub first_bad_unique : (t : List ℕ) (m n : ℕ) → FirstBad t m → FirstBad t n → m ≡ n
first_bad_unique t m n a b = ⊎_elim (λ h. absurd (a.bad (b.before m a.one h))) (λ h. ⊎_elim (λ k. absurd (b.bad (a.before n b.one k))) (λ k. omega arith) (below? n m)) (below? m n)
