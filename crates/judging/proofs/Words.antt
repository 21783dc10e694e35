-- A line's bytes and its words: a line that is written is guessed. Assumes nothing.
use mathlib.Core.Path.{◌≡◌, refl, ap, sym, ◌∙◌}
use mathlib.Core.Bool.{Bool, true, false, ◌&&◌, ◌||◌, cond, false≢true}
use mathlib.Core.List.{List, [], ◌∷◌, ◌++◌, map}
use mathlib.Core.Option.{none, some}
use Prim.Native.Nat.{ℕ, zero, suc, ◌+◌, ◌*◌, ◌-◌, ◌/◌, ◌%◌, ◌<◌, ◌≤◌}
use native.Mathlib.Omega.{arith}
use lib.Dec.{eqb, ltb, leb}
use borrow.Author.Tests.{lt-ltb, eqb-true, eq-eqb, ne_eqb, ltb-true, ltb-false, leb-true}
use Rattle.words.specs.Small.{all, or_zero}
use Rattle.words.proofs.Bools.{and_both, and_make, cond-true, cond-false}
use Rattle.cases.specs.declared.Expr.{Expr}
use Rattle.cases.specs.declared.Expr.TheVariants.{Constant, Sum, Difference, Equal}
use Rattle.cases.specs.declared.Instr.{Instr}
use Rattle.cases.specs.declared.Instr.TheVariants.{Empty, Read, Write, Local, Branch, Goto, Acquire, Release}
use Rattle.texts.specs.Lines.{Line, head, mem, reg, op}
use Rattle.lines.specs.Quoted.{quoted}
use Rattle.lines.specs.Decimal.{digits_within, decimal}
use Rattle.texts.specs.Text.{listed, expr_words, instr_words, line_words, spaced, joined, body}
use Rattle.judging.specs.Draft.{Draft, low, low_expr, low_instr, label_of, begin, step, head_ok, mem_ok, reg_ok, op_ok, with_mem, with_reg, with_op, fresh, from}
use Rattle.judging.specs.Parse.{front, words_in, same, grown, value_from, value, byte_of, half_of, guess, guess_instr, parse, parsed}
use Rattle.judging.proofs.Small.{cond-some, none-some, and4, and5}

-- the same bytes

pub same_is : (s t : List ℕ) → same s t ≡ true → s ≡ t
same_is [] [] h = refl
same_is [] (b ∷ t) h = absurd (false≢true h)
same_is (a ∷ s) [] h = absurd (false≢true h)
same_is (a ∷ s) (b ∷ t) h = let r = and_both (eqb a b) (same s t) h in λ j. eqb-true a b r.0 j ∷ same_is s t r.1 j

pub same_refl : (s : List ℕ) → same s s ≡ true
same_refl [] = refl
same_refl (a ∷ s) = and_make (eqb a a) (same s s) (eq-eqb a a refl) (same_refl s)

-- bytes over k

abbrev pub over : ℕ → List ℕ → Bool
over k w = all (λ b. ltb k b) w

pub over_append : (k : ℕ) (a b : List ℕ) → over k a ≡ true → over k b ≡ true → over k (a ++ b) ≡ true
over_append k [] b p q = q
over_append k (x ∷ a) b p q = let r = and_both (ltb k x) (over k a) p in and_make (ltb k x) _ r.0 (over_append k a b r.1 q)

over_less : (k m : ℕ) (a : List ℕ) → k ≤ m → over m a ≡ true → over k a ≡ true
over_less k m [] h p = refl
over_less k m (x ∷ a) h p = let r = and_both (ltb m x) (over m a) p in and_make (ltb k x) _ (lt-ltb k x (omega (arith, ltb-true m x r.0))) (over_less k m a h r.1)

over_digits : (k n : ℕ) → over 32 (digits_within k n) ≡ true
unfolding digits_within
over_digits zero n = refl
over_digits (suc k) n = go (ltb n 10) (over_digits k (n / 10))
  where
    digit : (m : ℕ) → over 32 ((48 + m) ∷ []) ≡ true
    digit m = and_make (ltb 32 (48 + m)) true (lt-ltb 32 (48 + m) (omega arith)) refl

    go : (b : Bool) → over 32 (digits_within k (n / 10)) ≡ true → over 32 (cond b ((48 + n) ∷ []) (digits_within k (n / 10) ++ ((48 + n % 10) ∷ []))) ≡ true
    go true h = digit n
    go false h = over_append 32 (digits_within k (n / 10)) ((48 + n % 10) ∷ []) h (digit (n % 10))

-- every word of a line is made of bytes over 32

abbrev plain : List (List ℕ) → Bool
plain ws = all (over 32) ws

plain_numbers : (ns : List ℕ) → plain (map decimal ns) ≡ true
plain_numbers [] = refl
plain_numbers (n ∷ ns) = and_make (over 32 (decimal n)) _ (over_digits (suc n) n) (plain_numbers ns)

plain_expr : (d : ℕ) (e : Expr) → plain (expr_words d e) ≡ true
plain_expr d (Constant k) = plain_numbers (d ∷ k ∷ [])
plain_expr d (Sum a b) = plain_numbers (d ∷ a ∷ b ∷ [])
plain_expr d (Difference a b) = plain_numbers (d ∷ a ∷ b ∷ [])
plain_expr d (Equal a b) = plain_numbers (d ∷ a ∷ b ∷ [])

plain_instr : (x : Instr) → plain (instr_words x) ≡ true
plain_instr Empty = refl
plain_instr (Read d a) = plain_numbers (d ∷ a ∷ [])
plain_instr (Write a b) = plain_numbers (a ∷ b ∷ [])
plain_instr (Local d e) = plain_expr d e
plain_instr (Branch a l) = plain_numbers (a ∷ l ∷ [])
plain_instr (Goto l) = plain_numbers (l ∷ [])
plain_instr (Acquire a) = plain_numbers (a ∷ [])
plain_instr (Release a) = plain_numbers (a ∷ [])

plain_line : (l : Line) → plain (line_words l) ≡ true
plain_line (head p m b) = plain_numbers (p ∷ m ∷ listed b)
plain_line (mem l v) = plain_numbers (l ∷ v ∷ [])
plain_line (reg p k v) = plain_numbers (p ∷ k ∷ v ∷ [])
plain_line (op p x) = and_make (over 32 (decimal p)) _ (over_digits (suc p) p) (plain_instr x)

over_spaced : (w : List ℕ) (ws : List (List ℕ)) → plain (w ∷ ws) ≡ true → over 10 (spaced w ws) ≡ true
unfolding spaced
over_spaced w [] h = over_less 10 32 w (omega arith) (and_both (over 32 w) true h).0
over_spaced w (v ∷ ws) h =
    let r = and_both (over 32 w) (plain (v ∷ ws)) h in
    over_append 10 w (32 ∷ spaced v ws) (over_less 10 32 w (omega arith) r.0) (over_spaced v ws r.1)

-- no line feed in a line's body
pub over_body : (l : Line) → over 10 (body l) ≡ true
over_body l = go (line_words l) (plain_line l)
  where
    go : (ws : List (List ℕ)) → plain ws ≡ true → over 10 (joined ws) ≡ true
    go [] h = refl
    go (w ∷ ws) h = over_spaced w ws h

-- words joined and taken apart

module _ (b : ℕ) (t : List ℕ) (h : ltb 32 b ≡ true) where
  no_space : words_in (b ∷ t) ≡ front b (words_in t)
  unfolding words_in
  no_space = cond-false (eqb b 32) ([] ∷ words_in t) (front b (words_in t)) (ne_eqb b 32 (λ e. omega (arith, ltb-true 32 b h)))

one_word : (w : List ℕ) → over 32 w ≡ true → words_in w ≡ w ∷ []
unfolding words_in
one_word [] h = refl
one_word (b ∷ w) h = let r = and_both (ltb 32 b) (over 32 w) h in no_space b w r.0 ∙ ap (front b) (one_word w r.1)

more_words : (w t : List ℕ) → over 32 w ≡ true → words_in (w ++ (32 ∷ t)) ≡ w ∷ words_in t
unfolding words_in
more_words [] t h = refl
more_words (b ∷ w) t h = let r = and_both (ltb 32 b) (over 32 w) h in no_space b (w ++ (32 ∷ t)) r.0 ∙ ap (front b) (more_words w t r.1)

words_spaced : (w : List ℕ) (ws : List (List ℕ)) → plain (w ∷ ws) ≡ true → words_in (spaced w ws) ≡ w ∷ ws
unfolding spaced
words_spaced w [] h = one_word w (and_both (over 32 w) true h).0
words_spaced w (v ∷ ws) h =
    let r = and_both (over 32 w) (plain (v ∷ ws)) h in
    more_words w (spaced v ws) r.0 ∙ ap (λ (l : List (List ℕ)). w ∷ l) (words_spaced v ws r.1)

-- a number in decimal and its value

value-append : (v : ℕ) (w : List ℕ) (b : ℕ) → value_from v (w ++ (b ∷ [])) ≡ grown (value_from v w) b
unfolding value_from
value-append v [] b = refl
value-append v (x ∷ w) b = value-append (grown v x) w b

value-digits : (k n : ℕ) → n < k → n < 100000 → value (digits_within k n) ≡ n
unfolding digits_within value_from
value-digits zero n h s = absurd (omega arith)
value-digits (suc k) n h s = go (ltb n 10) refl (value-digits k (n / 10))
  where
    go : (b : Bool) → ltb n 10 ≡ b → (n / 10 < k → n / 10 < 100000 → value (digits_within k (n / 10)) ≡ n / 10) → value (cond b ((48 + n) ∷ []) (digits_within k (n / 10) ++ ((48 + n % 10) ∷ []))) ≡ n
    go true e more = let z = ltb-true n 10 e in omega arith
    go false e more =
        let z = ltb-false n 10 e in
        value-append 0 (digits_within k (n / 10)) (48 + n % 10) ∙ ap (λ (v : ℕ). grown v (48 + n % 10)) (more (omega arith) (omega arith)) ∙ omega arith

pub value-decimal : (n : ℕ) → n < 100000 → value (decimal n) ≡ n
value-decimal n h = value-digits (suc n) n (omega arith) h

-- a line that fits is guessed from its words

abbrev pub Fits : Line → Type 0
Fits (head p m b) = (p < 256) × (m < 256) × (or_zero b < 256)
Fits (mem l v) = (l < 256) × (v < 65536)
Fits (reg p k v) = (p < 256) × (k < 256) × (v < 65536)
Fits (op p x) = (p < 256) × (low_instr x ≡ true) × (label_of x ≤ 12)

small : (n : ℕ) → n < 256 → byte_of (value (decimal n)) ≡ n
small n h = ap byte_of (value-decimal n (omega arith)) ∙ cond-true (ltb n 256) n 255 (lt-ltb n 256 h)

large : (n : ℕ) → n < 65536 → half_of (value (decimal n)) ≡ n
large n h = ap half_of (value-decimal n (omega arith)) ∙ cond-true (ltb n 65536) n 65535 (lt-ltb n 65536 h)

reg_value : (r : ℕ) → low r ≡ true → byte_of (value (decimal r)) ≡ r
reg_value r h = small r (omega (arith, ltb-true r 8 h))

two-low : (a b : ℕ) → (low a && low b) ≡ true → (byte_of (value (decimal a)) ≡ a) × (byte_of (value (decimal b)) ≡ b)
two-low a b h = let r = and_both (low a) (low b) h in (reg_value a r.0, reg_value b r.1)

module _ (p : ℕ) where
  abbrev op_words : Instr → List (List ℕ)
  op_words x = (quoted "op") ∷ decimal p ∷ instr_words x

  expr_back : (d : ℕ) (e : Expr) → low d ≡ true → low_expr e ≡ true → guess_instr (op_words (Local d e)) ≡ Local d e
  expr_back d (Constant k) h f = λ j. Local (reg_value d h j) (Constant (large k (ltb-true k 65536 f) j))
  expr_back d (Sum a b) h f = λ j. Local (reg_value d h j) (Sum ((two-low a b f).0 j) ((two-low a b f).1 j))
  expr_back d (Difference a b) h f = λ j. Local (reg_value d h j) (Difference ((two-low a b f).0 j) ((two-low a b f).1 j))
  expr_back d (Equal a b) h f = λ j. Local (reg_value d h j) (Equal ((two-low a b f).0 j) ((two-low a b f).1 j))

  instr_back : (x : Instr) → low_instr x ≡ true → label_of x ≤ 12 → guess_instr (op_words x) ≡ x
  instr_back Empty h l = absurd (false≢true h)
  instr_back (Read d a) h l = λ j. Read ((two-low d a h).0 j) ((two-low d a h).1 j)
  instr_back (Write a b) h l = λ j. Write ((two-low a b h).0 j) ((two-low a b h).1 j)
  instr_back (Local d e) h l = expr_back d e (and_both (low d) (low_expr e) h).0 (and_both (low d) (low_expr e) h).1
  instr_back (Branch a k) h l = λ j. Branch (reg_value a h j) (large k (omega arith) j)
  instr_back (Goto k) h l = λ j. Goto (large k (omega arith) j)
  instr_back (Acquire a) h l = λ j. Acquire (reg_value a h j)
  instr_back (Release a) h l = λ j. Release (reg_value a h j)

some-digit : (n : ℕ) → same (decimal n) [] ≡ false
unfolding digits_within
some-digit n = go (ltb n 10)
  where
    more : (w : List ℕ) (b : ℕ) → same (w ++ (b ∷ [])) [] ≡ false
    more [] b = refl
    more (x ∷ w) b = refl

    go : (b : Bool) → same (cond b ((48 + n) ∷ []) (digits_within n (n / 10) ++ ((48 + n % 10) ∷ []))) [] ≡ false
    go true = refl
    go false = more (digits_within n (n / 10)) (48 + n % 10)

guess_back : (l : Line) → Fits l → guess (line_words l) ≡ l
guess_back (head p m none) f = λ j. head (small p f.0 j) (small m f.1 j) none
guess_back (head p m (some b)) f =
    (λ j. head (small p f.0 j) (small m f.1 j) (cond (same (decimal b) []) none (some (small b f.2 j))))
    ∙ ap (head p m) (cond-false (same (decimal b) []) none (some b) (some-digit b))
guess_back (mem l v) f = λ j. mem (small l f.0 j) (large v f.1 j)
guess_back (reg p k v) f = λ j. reg (small p f.0 j) (small k f.1 j) (large v f.2 j)
guess_back (op p x) f = λ j. op (small p f.0 j) (instr_back p x f.1 f.2 j)

words_body : (l : Line) → words_in (body l) ≡ line_words l
words_body (head p m b) = words_spaced (quoted "case") (map decimal (p ∷ m ∷ listed b)) (plain_line (head p m b))
words_body (mem l v) = words_spaced (quoted "mem") (map decimal (l ∷ v ∷ [])) (plain_line (mem l v))
words_body (reg p k v) = words_spaced (quoted "reg") (map decimal (p ∷ k ∷ v ∷ [])) (plain_line (reg p k v))
words_body (op p x) = words_spaced (quoted "op") (decimal p ∷ instr_words x) (plain_line (op p x))

-- A line is parsed exactly from its bytes.
pub parse-body : (l : Line) → Fits l → parse (body l) ≡ some l
unfolding parse
parse-body l f = ap (λ (ws : List (List ℕ)). parsed (guess ws) (body l)) (words_body l) ∙ ap (λ (g : Line). parsed g (body l)) (guess_back l f) ∙ cond-true (same (body l) (body l)) (some l) none (same_refl (body l))

pub parse_is : (p : List ℕ) (l : Line) → parse p ≡ some l → p ≡ body l
unfolding parse
parse_is p l h =
    let g = guess (words_in p) in
    let r = cond-some (same (body g) p) g l h in
    sym (same_is (body g) p r.0) ∙ ap body r.1

-- an accepted line fits
pub fits_begin : (l : Line) (d : Draft) → begin l ≡ some d → Fits l
fits_begin (head p m b) d h = let r = and5 (ltb 0 p) (ltb p 5) (ltb 0 m) (ltb m 9) (leb (or_zero b) 96) (cond-some (head_ok p m b) (fresh p m b) d h).0 in (omega (arith, ltb-true p 5 r.1), omega (arith, ltb-true m 9 r.3), omega (arith, leb-true (or_zero b) 96 r.4))
fits_begin (mem l v) d h = absurd (none-some h)
fits_begin (reg p k v) d h = absurd (none-some h)
fits_begin (op p x) d h = absurd (none-some h)

pub fits_step : (d e : Draft) (l : Line) → d.procs ≤ 4 → d.locs ≤ 8 → step d l ≡ some e → Fits l
fits_step d e (head p m b) hp hl h = absurd (none-some h)
fits_step d e (mem l v) hp hl h = let r = and4 (leb d.next l) (ltb l d.locs) (ltb 0 v) (ltb v 65536) (cond-some (mem_ok d l v) (with_mem d l v) e h).0 in (omega (arith, ltb-true l d.locs r.1), omega (arith, ltb-true v 65536 r.3))
fits_step d e (reg p k v) hp hl h = let r = and4 (leb d.next (8 + (8 * p + k))) (ltb p d.procs) (ltb k 8) (ltb v 65536) (cond-some (reg_ok d p k v) (with_reg d (8 * p + k) v) e h).0 in (omega (arith, ltb-true p d.procs r.1), omega (arith, ltb-true k 8 r.2), omega (arith, ltb-true v 65536 r.3))
fits_step d e (op p x) hp hl h = let r = and5 (ltb p d.procs) (ltb (d.next - from p) 12) (low_instr x) (leb (label_of x) 12) (ltb 0 (d.next - from p) || leb d.need d.next) (cond-some (op_ok d p (d.next - from p) x) (with_op d p (d.next - from p) x) e h).0 in (omega (arith, ltb-true p d.procs r.0), r.2, leb-true (label_of x) 12 r.3)
