use Rattle.needless.proofs.Echoing.{all_left, some_left}
use Rattle.needless.proofs.unechoed.Goals as goal

pub returns-then-w-ge48 : goal.returns-then-w-ge48
returns-then-w-ge48 c = let a = c.args in λ x s m h. all_left x s a.spent.now a.w a.word

pub returns-then-tried-word : goal.returns-then-tried-word
returns-then-tried-word c = let a = c.args in λ x s m h. all_left x s a.spent.now a.w a.word

pub returns-else-tried-word : goal.returns-else-tried-word
returns-else-tried-word c =
    let a = c.args in
    λ x s m h. some_left x s a.spent.now a.w a.word c.if-w-ge48.false c.novel_items.result (c.novel_items.ensures x s m h)
