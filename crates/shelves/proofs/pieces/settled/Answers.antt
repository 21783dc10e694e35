use Rattle.std.proofs.Common.{◌≡◌, ◌-◌, ◌%◌, length, sym, ap, ◌∙◌}
use Rattle.std.proofs.lemmas.List.{take_rest, take_at}
use Rattle.shelves.specs.Blocks.{left_over}
use Rattle.shelves.proofs.Splitting.{left-length}
use Rattle.shelves.proofs.Onwards.{left-is}
use Rattle.shelves.proofs.pieces.settled.Goals as goal

pub returns : goal.returns
returns c =
    let bytes = c.args.bytes.now in
    let over = length bytes % 512 in
    let front : c.copy_from_slice.new.self ≡ left_over bytes =
    c.copy_from_slice.ensures.after ∙ take_rest bytes (length bytes - over) ∙ left-is bytes in
    let size : length c.copy_from_slice.new.self ≡ over = ap length front ∙ left-length bytes in
    record { counts = c.count_blocks.ensures; over = sym (left-length bytes); rest = take_at c.copy_from_slice.new.self _ over size ∙ front }
