use Rattle.std.proofs.Common.{◌≡◌, ℕ, ◌+◌, ◌≤◌, List, ◌++◌, rules, length, take, sym, ap, ap₂, ◌∙◌, subst, le_refl, drop_at, length-take-le}
use Rattle.std.proofs.lemmas.Slice.{take-put_mid_below}
use Rattle.std.proofs.KnownBytes.{Consumes-trans}
use Rattle.std.specs.Io.KnownBytes.{Consumes}
use borrow.Rule.Slice.PartMut.{put_mid, post_of}
use lib.Seq.{take-add, take-append-le}
use Rattle.inputs.proofs.read_full.Goals as goal

-- what was filled, and the n bytes of one read behind it
filled : (a k n : ℕ) (xs ys : List ℕ) → a ≤ length xs → n ≤ length ys → take a xs ++ take n ys ≡ take (a + n) (put_mid a k xs ys)
filled a k n xs ys within fits =
    let after = post_of a k xs in
    let behind = ap (take n) (drop_at (take a xs) (ys ++ after) a (length-take-le a xs within)) ∙ take-append-le n ys after fits in
    sym (take-add a n (put_mid a k xs ys) ∙ ap₂ (λ u v. u ++ v) (take-put_mid_below a k xs ys a (le_refl a) within) behind)

pub loop-done-preserved : goal.loop-done-preserved
loop-done-preserved g c =
    let within = c.loop-done.invariant.1 in (
      search rules,
      search rules,
      subst (Consumes _ _) (filled c.loop-done.done _ c.in-Ok.n c.loop-done.bytes c.read.new.buf within c.in-Ok.ensures.bound.0)
          (Consumes-trans _ _ _ _ _ c.loop-done.invariant.2 c.in-Ok.ensures.bytes.0),
    )
