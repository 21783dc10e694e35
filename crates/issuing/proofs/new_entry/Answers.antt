use mathlib.Core.Path.{◌∙◌, ap}
use Prim.Native.Nat.{ℕ, ◌+◌, ◌*◌}
use native.Mathlib.Omega.{arith}
use lib.ListN.{get_or}
use Rattle.issuing.proofs.Binding.{entry_fresh, name_low}
use Rattle.issuing.proofs.new_entry.Goals as goal

pub returns : goal.returns
returns c =
    let a = c.args in
    let low = c.requires.proc in
    let x = c.name_at-first.ensures in
    let y = c.name_at.ensures in
    record {
      packs = λ h q. record {
        fine = c.requires.fine;
        proc = low;
        place = q;
        first = omega (arith, x, name_low a.m.now.names (8 * a.p + c.first_read.result) c.requires.names_long h);
        second = omega (arith, y, name_low a.m.now.names (8 * a.p + c.second_read.result) c.requires.names_long h);
        loc = c.location.ensures.0;
      };
      shows = λ k s d h n.
          entry_fresh k s a.p a.m.now.names low n a.i a.place _ _ _ _ c.requires.fine (omega (arith, low))
          (x ∙ ap (λ (n : ℕ). get_or a.m.now.names (8 * a.p + n) 0) c.first_read.ensures)
          (y ∙ ap (λ (n : ℕ). get_or a.m.now.names (8 * a.p + n) 0) c.second_read.ensures)
          (c.location.ensures.1 k s d h);
    }
