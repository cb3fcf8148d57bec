use Rattle.held_store.specs.Held.{held_text}
use Rattle.held_store.proofs.Bytes.{left_after, none_left}
use Rattle.held_store.proofs.held.HeldStoreSource.read.Goals as goal

pub returns-clause-bytes : goal.returns-clause-bytes
returns-clause-bytes c =
    let text = held_text c.args.self.now in
    let place = c.args.self.now.place in
    let count = c.copy_from-count.result in
    let came = c.copy_from-count.ensures in
    (left_after place count text c.copy_from-count.new.buffer came.bytes, λ none room. none_left place count text (came.progress none room))
