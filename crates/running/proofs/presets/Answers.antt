use Rattle.running.proofs.Records.{made_all}
use Rattle.cases.specs.declared.Case.{Case}
use Rattle.cases.specs.Case.{preset_of}
use Rattle.machine.specs.Shown.{shown_value, Presets}
use Rattle.running.specs.Shown.{unknown}
use Prim.Native.Nat.{◌/◌, ◌%◌}
use mathlib.Core.Path.{◌≡◌, refl}
use borrow.Author.Rules.{rules}
use Rattle.running.proofs.presets.Goals as goal

pub returns : goal.returns
returns c =
    let C = c.args.case.now in
    record {
      long = c.from_fn.ensures.items.long;
      all = made_all (λ n v. shown_value v ≡ preset_of C (n / 8) (n % 8)) unknown c.from_fn.result c.from_fn.ensures.items (λ i y q k. (search rules, (let f : (x : Case) → Presets x C.masks C.presets → shown_value y ≡ preset_of x (i / 8) (i % 8) = search rules in f C (record { masks = refl; presets = refl }))));
    }
