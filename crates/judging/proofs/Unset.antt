-- The first line that names a register nobody sets stands where the lowest such position says. Assumes nothing.
use mathlib.Core.Path.{◌≡◌, refl, ap, sym, ◌∙◌}
use mathlib.Core.Bool.{Bool, true, false, ◌&&◌, not}
use mathlib.Core.List.{List, [], ◌∷◌, ◌++◌, map, append_assoc}
use mathlib.Core.Option.{Option, none, some}
use Prim.Native.Nat.{ℕ, zero, suc, ◌+◌, ◌*◌, ◌-◌, ◌/◌, ◌%◌, ◌<◌, ◌≤◌}
use native.Mathlib.Omega.{arith}
use lib.Dec.{eqb, ltb, leb, lit<}
use lib.ListN.{length, get_or, length-append}
use borrow.Author.Tests.{lt-ltb, ltb-true, leb-true}
use Rattle.words.specs.Small.{any, each, counting, concat_map}
use Rattle.words.specs.Refusals.{first_code_of}
use Rattle.words.proofs.Bools.{and_both, cond-true, cond-false, below_make, or_none, or_false}
use Rattle.words.proofs.Lists.{each_length, concat_map-append}
use Rattle.cases.specs.declared.Case.{Case}
use Rattle.cases.specs.Case.{count_of, instr_at, preset_of, word_of}
use Rattle.cases.specs.Instruction.{field_at, is_read}
use Rattle.cases.specs.Block.{within, proc_at, number_at, byte_at, byte, used, reads_at, is_set, bad19, bad, position_of, faults, contents}
use Rattle.cases.proofs.Lowest.{no_position, bad_else}
use Rattle.cases.proofs.Positions.{position_lowest}
use Rattle.texts.specs.Lines.{Line, head, mem_line, reg_line, op, mem_lines, reg_lines, op_lines, lines_of}
use Rattle.texts.specs.Reading.{Proper, unset_at, names, first_line}
use Rattle.judging.specs.Places.{instrs_before, line_at}
use Rattle.judging.proofs.Bridge.{count_byte, slot_byte, inside, long_of, good_case}

-- FIRST LINES

first_at : (f : Line → Bool) (xs : List Line) (x : Line) (ys : List Line) → any f xs ≡ false → f x ≡ true → first_line f (xs ++ (x ∷ ys)) ≡ suc (length xs)
unfolding first_line
first_at f [] x ys h e = cond-true (f x) 1 (suc (first_line f ys)) e
first_at f (a ∷ xs) x ys h e =
    let r = or_none (f a) (any f xs) h in
    cond-false (f a) 1 (suc (first_line f (xs ++ (x ∷ ys)))) r.0 ∙ ap suc (first_at f xs x ys r.1 e)

none-append : (f : Line → Bool) (xs ys : List Line) → any f xs ≡ false → any f ys ≡ false → any f (xs ++ ys) ≡ false
none-append f [] ys p q = q
none-append f (a ∷ xs) ys p q =
    let r = or_none (f a) (any f xs) p in
    or_false (f a) (any f (xs ++ ys)) r.0 (none-append f xs ys r.1 q)

none_groups : (f : Line → Bool) (g : ℕ → List Line) (k n : ℕ) → ((q : ℕ) → k ≤ q → q < k + n → any f (g q) ≡ false) → any f (concat_map g (counting k n)) ≡ false
none_groups f g k zero h = refl
none_groups f g k (suc n) h = none-append f (g k) (concat_map g (counting (suc k) n)) (h k (omega arith) (omega arith)) (none_groups f g (suc k) n (λ q a b. h q (omega arith) (omega arith)))

none_each : (f : Line → Bool) (g : ℕ → Line) (k n : ℕ) → ((i : ℕ) → k ≤ i → i < k + n → f (g i) ≡ false) → any f (map g (counting k n)) ≡ false
none_each f g k zero h = refl
none_each f g k (suc n) h = or_false (f (g k)) (any f (map g (counting (suc k) n))) (h k (omega arith) (omega arith)) (none_each f g (suc k) n (λ i a b. h i (omega arith) (omega arith)))

-- LISTS IN TWO PARTS

counting-parts : (k a b : ℕ) → counting k (a + suc b) ≡ counting k a ++ ((k + a) ∷ counting (suc (k + a)) b)
counting-parts k zero b =
    let e : zero + suc b ≡ suc b = omega arith in
    let q : k ≡ k + zero = omega arith in
    ap (counting k) e ∙ (λ t. q t ∷ counting (suc (q t)) b)
counting-parts k (suc a) b =
    let e : suc a + suc b ≡ suc (a + suc b) = omega arith in
    let q : suc k + a ≡ k + suc a = omega arith in
    ap (counting k) e ∙ (λ t. k ∷ counting-parts (suc k) a b t) ∙ (λ t. k ∷ (counting (suc k) a ++ (q t ∷ counting (suc (q t)) b)))

map-parts : {A : Type 0} (g : ℕ → A) (a b : List ℕ) → map g (a ++ b) ≡ map g a ++ map g b
map-parts g [] b = refl
map-parts g (x ∷ a) b = ap (λ l. g x ∷ l) (map-parts g a b)

each_parts : {A : Type 0} (g : ℕ → A) (n i : ℕ) → i < n → each n g ≡ each i g ++ (g i ∷ map g (counting (suc i) (n - suc i)))
each_parts g n i h =
    let e : n ≡ i + suc (n - suc i) = omega arith in
    let z : 0 + i ≡ i = omega arith in
    ap (λ (m : ℕ). each m g) e ∙ ap (map g) (counting-parts 0 i (n - suc i)) ∙ map-parts g (counting 0 i) ((0 + i) ∷ counting (suc (0 + i)) (n - suc i)) ∙ (λ t. each i g ++ (g (z t) ∷ map g (counting (suc (z t)) (n - suc i))))

module _ (c : Case) (proper : Proper c) where
  abbrev s : List ℕ
  s = contents c

  abbrev prog : ℕ → List Line
  prog p = each (count_of c p) (λ i. op p (instr_at c p i))

  groups_length : (p : ℕ) → length (concat_map prog (counting 0 p)) ≡ instrs_before c.counts p
  unfolding instrs_before
  groups_length zero = refl
  groups_length (suc p) =
      let e : suc p ≡ p + suc 0 = omega arith in
      let parts = ap (λ (n : ℕ). concat_map prog (counting 0 n)) e ∙ ap (concat_map prog) (counting-parts 0 p 0) ∙ concat_map-append prog (counting 0 p) ((0 + p) ∷ []) in
      let z : 0 + p ≡ p = omega arith in
      let last = ap (λ (q : ℕ). length (prog q)) z ∙ each_length (λ i. op p (instr_at c p i)) (count_of c p) in
      omega (arith, ap length parts, length-append (concat_map prog (counting 0 p)) (prog (0 + p) ++ []), length-append (prog (0 + p)) [], last, groups_length p)

  abbrev at : ℕ → ℕ → ℕ → ℕ
  at p i j = 92 + 6 * (12 * p + i) + j

  placed : (p i j : ℕ) → i < 12 → j < 6 → (proc_at (at p i j) ≡ p) × (number_at (at p i j) ≡ i) × (byte_at (at p i j) ≡ byte_at (92 + j)) × (at p i j - byte_at (at p i j) ≡ at p i 0)
  placed p i j h u = (omega arith, omega arith, omega arith, omega arith)

  -- a field names such a register exactly if its position is bad for 19
  bad_names : (p i j : ℕ) → p < 4 → i < count_of c p → j < 6 → bad19 s (at p i j) ≡ unset_at c p (instr_at c p i) j
  unfolding bad19 reads_at
  bad_names p i j h b u =
      let few = (good_case c proper).counts p h in
      let long = long_of c proper in
      let w = inside 92 380 (at p i j) (omega arith) (omega arith) in
      let place = placed p i j (omega arith) u in
      let pr = place.0 in
      let nr = place.1 in
      let by = place.2 in
      let q = place.3 in
      let cn = count_byte c long p h in
      let us : used s (proc_at (at p i j)) (number_at (at p i j)) ≡ true = (λ k. ltb (nr k) (byte s (4 + pr k))) ∙ lt-ltb i (byte s (4 + p)) (omega arith) in
      let o = ap (byte s) q ∙ slot_byte c long (12 * p + i) 0 (omega arith) (lit< tt) in
      let v = slot_byte c long (12 * p + i) j (omega arith) u in
      λ k. (w k && us k && (not (eqb (by k) 0) && is_read (field_at (o k) (by k - 1)))) && not (is_set s (pr k) (v k))

  -- the lines before the instructions name no register that is read
  quiet-front : (b : Option ℕ) → any (names c) (head c.procs c.locs b ∷ (mem_lines c ++ reg_lines c)) ≡ false
  quiet-front b = none-append (names c) (mem_lines c) (reg_lines c) (none_groups (names c) (λ l. mem_line l (word_of c l)) 0 8 (λ l x y. word l (word_of c l))) (none_groups (names c) (λ n. reg_line (n / 8) (n % 8) (preset_of c (n / 8) (n % 8))) 0 32 (λ n x y. preset (n / 8) (n % 8) (preset_of c (n / 8) (n % 8))))
    where
      word : (l v : ℕ) → any (names c) (mem_line l v) ≡ false
      word l zero = refl
      word l (suc v) = refl

      preset : (p k : ℕ) (o : Option ℕ) → any (names c) (reg_line p k o) ≡ false
      preset p k none = refl
      preset p k (some v) = refl

  module _ (b : Option ℕ) (unset : first_code_of (faults (contents c)) ≡ 19) where
    abbrev pos : ℕ
    pos = position_of s (first_code_of (faults s))

    abbrev p : ℕ
    p = proc_at pos

    abbrev n : ℕ
    n = number_at pos

    bad_xs : (i : ℕ) (x : Bool) → bad s (first_code_of (faults s)) i ≡ x → bad19 s i ≡ x
    bad_xs i x h = bad_else s i 19 (omega arith) ∙ ap (λ (code : ℕ). bad s code i) (sym unset) ∙ h

    hit : bad19 s pos ≡ true
    hit = bad_xs pos true (position_lowest s (omega (arith, unset))).hit

    lower : (i : ℕ) → i < pos → bad19 s i ≡ false
    lower i h = bad_xs i false ((position_lowest s (omega (arith, unset))).below i h)

    here : (92 ≤ pos) × (pos < 380) × (n < count_of c p)
    unfolding bad19
    here =
        let a = (and_both (within 92 380 pos && used s p n && reads_at (byte s (pos - byte_at pos)) pos) _ hit).0 in
        let r = (and_both (within 92 380 pos && used s p n) _ a).0 in
        let w = and_both (within 92 380 pos) (used s p n) r in
        let e = and_both (leb 92 pos) (ltb pos 380) w.0 in
        let lo = leb-true 92 pos e.0 in
        let hi = ltb-true pos 380 e.1 in
        (lo, hi, omega (arith, ltb-true n (byte s (4 + p)) w.1, count_byte c (long_of c proper) p (omega arith)))

    pub position_in : (92 ≤ pos) × (pos < 380)
    position_in = (here.0, here.1)

    named : names c (op p (instr_at c p n)) ≡ true
    named =
        let lo = here.0 in
        let hi = here.1 in
        let j = (pos - 92) % 6 in
        let e : at p n j ≡ pos = omega arith in
        below_make 6 (unset_at c p (instr_at c p n)) j (omega arith) (sym (bad_names p n j (omega arith) here.2 (omega arith)) ∙ ap (bad19 s) e ∙ hit)

    unnamed : (q i : ℕ) → q < 4 → i < count_of c q → 12 * q + i < 12 * p + n → names c (op q (instr_at c q i)) ≡ false
    unnamed q i h l e =
        let lo = here.0 in
        no_position 6 (unset_at c q (instr_at c q i)) (λ j u. sym (bad_names q i j h l u) ∙ lower (at q i j) (omega arith))

    before : List Line
    before = concat_map prog (counting 0 p) ++ each n (λ i. op p (instr_at c p i))

    after : List Line
    after = map (λ i. op p (instr_at c p i)) (counting (suc n) (count_of c p - suc n)) ++ concat_map prog (counting (suc p) (3 - p))

    split : op_lines c ≡ before ++ (op p (instr_at c p n) ∷ after)
    unfolding before after
    split =
        let lo = here.0 in
        let hi = here.1 in
        let e : 4 ≡ p + suc (3 - p) = omega arith in
        let z : 0 + p ≡ p = omega arith in
        let g : ℕ → Line = λ i. op p (instr_at c p i) in
        let mine = each_parts (λ i. op p (instr_at c p i)) (count_of c p) n here.2 in
        ap (λ (m : ℕ). concat_map prog (counting 0 m)) e
        ∙ ap (concat_map prog) (counting-parts 0 p (3 - p))
        ∙ concat_map-append prog (counting 0 p) ((0 + p) ∷ counting (suc (0 + p)) (3 - p))
        ∙ (λ t. concat_map prog (counting 0 p) ++ (prog (z t) ++ concat_map prog (counting (suc (z t)) (3 - p))))
        ∙ (λ t. concat_map prog (counting 0 p) ++ (mine t ++ concat_map prog (counting (suc p) (3 - p))))
        ∙ ap (λ (l : List Line). concat_map prog (counting 0 p) ++ l) (append_assoc (each n (λ i. op p (instr_at c p i))) (op p (instr_at c p n) ∷ map (λ i. op p (instr_at c p i)) (counting (suc n) (count_of c p - suc n))) (concat_map prog (counting (suc p) (3 - p))))
        ∙ sym (append_assoc (concat_map prog (counting 0 p)) (each n (λ i. op p (instr_at c p i))) (op p (instr_at c p n) ∷ after))

    quiet : any (names c) before ≡ false
    unfolding before
    quiet =
        let lo = here.0 in
        let hi = here.1 in
        none-append (names c) (concat_map prog (counting 0 p)) (each n (λ i. op p (instr_at c p i)))
        (none_groups (names c) prog 0 p (λ q x y. none_each (names c) (λ i. op q (instr_at c q i)) 0 (count_of c q) (λ i a l. let few = (good_case c proper).counts q (omega arith) in unnamed q i (omega arith) (omega arith) (omega arith))))
        (none_each (names c) (λ i. op p (instr_at c p i)) 0 n (λ i a l. let m = here.2 in unnamed p i (omega arith) (omega arith) (omega arith)))

    before-length : length before ≡ instrs_before c.counts p + n
    unfolding before
    before-length = length-append (concat_map prog (counting 0 p)) (each n (λ i. op p (instr_at c p i))) ∙ (λ t. groups_length p t + each_length (λ i. op p (instr_at c p i)) n t)

    -- The first line that names such a register.
    pub unset_line : first_line (names c) (lines_of c b) ≡ line_at (suc (length (lines_of c b))) c.counts pos
    unset_line =
        let front = head c.procs c.locs b ∷ (mem_lines c ++ reg_lines c) in
        let whole : lines_of c b ≡ (front ++ before) ++ (op p (instr_at c p n) ∷ after) = (λ t. head c.procs c.locs b ∷ sym (append_assoc (mem_lines c) (reg_lines c) (op_lines c)) t) ∙ ap (λ (l : List Line). front ++ l) split ∙ sym (append_assoc front before (op p (instr_at c p n) ∷ after)) in
        let first = ap (first_line (names c)) whole ∙ first_at (names c) (front ++ before) (op p (instr_at c p n)) after (none-append (names c) front before (quiet-front b) quiet) named in
        let total = groups_length 4 in
        let sizes : length (lines_of c b) ≡ length front + length (op_lines c) = ap length (λ t. head c.procs c.locs b ∷ sym (append_assoc (mem_lines c) (reg_lines c) (op_lines c)) t) ∙ length-append front (op_lines c) in
        first ∙ omega (arith, length-append front before, before-length, total, sizes)

    pub room_for : instrs_before c.counts 4 ≤ suc (length (lines_of c b))
    room_for =
        let front = head c.procs c.locs b ∷ (mem_lines c ++ reg_lines c) in
        let sizes : length (lines_of c b) ≡ length front + length (op_lines c) = ap length (λ t. head c.procs c.locs b ∷ sym (append_assoc (mem_lines c) (reg_lines c) (op_lines c)) t) ∙ length-append front (op_lines c) in
        omega (arith, groups_length 4, sizes)

-- at most 89 lines

four : (counts : List ℕ) → instrs_before counts 4 ≡ 0 + get_or counts 0 0 + get_or counts 1 0 + get_or counts 2 0 + get_or counts 3 0
unfolding instrs_before
four counts = refl

few_groups : (g : ℕ → List Line) (k n : ℕ) → ((q : ℕ) → length (g q) ≤ 1) → length (concat_map g (counting k n)) ≤ n
few_groups g k zero h = omega arith
few_groups g k (suc n) h = omega (arith, length-append (g k) (concat_map g (counting (suc k) n)), h k, few_groups g (suc k) n h)

pub few_lines : (c : Case) → Proper c → (b : Option ℕ) → length (lines_of c b) ≤ 89
few_lines c proper b =
    let words = few_groups (λ l. mem_line l (word_of c l)) 0 8 (λ l. word l (word_of c l)) in
    let presets = few_groups (λ n. reg_line (n / 8) (n % 8) (preset_of c (n / 8) (n % 8))) 0 32 (λ n. preset (n / 8) (n % 8) (preset_of c (n / 8) (n % 8))) in
    let few = (good_case c proper).counts in
    omega (arith, words, presets, length-append (mem_lines c) (reg_lines c ++ op_lines c), length-append (reg_lines c) (op_lines c), groups_length c proper 4, sums, few 0 (omega arith), few 1 (omega arith), few 2 (omega arith), few 3 (omega arith))
  where
    word : (l v : ℕ) → length (mem_line l v) ≤ 1
    word l zero = omega arith
    word l (suc v) = omega arith

    preset : (p k : ℕ) (o : Option ℕ) → length (reg_line p k o) ≤ 1
    preset p k none = omega arith
    preset p k (some v) = omega arith

    sums : instrs_before c.counts 4 ≡ 0 + count_of c 0 + count_of c 1 + count_of c 2 + count_of c 3
    sums = four c.counts
