use mathlib.Core.Path.{refl}
use Rattle.running.proofs.Draining.{begun_shows, begun_valid}
use Rattle.running.proofs.start.Goals as goal

pub returns : goal.returns
returns c =
    let values = c.presets.result in
    λ k. record {
      shows = begun_shows k c.args.case.now values c.requires c.presets.ensures;
      valid = begun_valid k c.args.case.now values c.requires c.presets.ensures;
      logged = refl;
    }
