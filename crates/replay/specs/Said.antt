-- Document 01, 'How it is called': what the program `replay` prints of its input. Assumes nothing.
use Rattle.std.specs.Prelude.{List, ℕ, take, drop}
use Rattle.cases.specs.Block.{read_of}
use Rattle.replaying.specs.Answer.{replayed}
use Rattle.lines.specs.Answers.{replay_line}

-- The line of a replay, with a result buffer of 104 bytes; the position is the block's own.
abbrev pub line_of : List ℕ → List ℕ → List ℕ
line_of block schedule = let a = replayed block schedule 104 in replay_line a.code a.steps (read_of block).position

-- 'takes a 512-byte block, then a schedule, on standard input (fewer than 512 bytes get code 1); it prints `code C after S steps`'
abbrev pub said : List ℕ → List ℕ
said input = line_of (take 512 input) (drop 512 input)
