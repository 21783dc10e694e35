use mathlib.Core.Path.{sym, ◌∙◌, subst}
use Rattle.clauses.specs.Wanted.{wanted}
use Rattle.searching.specs.Searched.{Searched}
use Rattle.searching.proofs.Ends.{searched_end, searched_unwanted}
use Rattle.searching.proofs.finish.Goals as goal

pub returns-then-asked_meets : goal.returns-then-asked_meets
returns-then-asked_meets c k s shows f sp n =
    let given = c.registers-registers.ensures k s shows.present shows.starts shows.shows shows.named in
    searched_end k (wanted c.args.asked) s sp n f c.registers-registers.result given (sym c.asked_meets.ensures ∙ c.if-asked_meets.true) c.insert-put.ensures

pub returns-else-asked_meets : goal.returns-else-asked_meets
returns-else-asked_meets c k s shows f sp n =
    let given = c.registers-registers.ensures k s shows.present shows.starts shows.shows shows.named in
    subst (Searched k (wanted c.args.asked) sp s n c.args.out.now c.args.tally c.args.out.now) (sym c.leave_off.ensures) (searched_unwanted k (wanted c.args.asked) s sp n f c.registers-registers.result given (sym c.asked_meets.ensures ∙ c.if-asked_meets.false) c.requires.held)
