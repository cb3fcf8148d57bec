-- What came are whole images. All of it is held, and no failure came.
use Rattle.std.proofs.Common.{◌≡◌, length, vec_len}
use Rattle.std.specs.Io.KnownBytes.{Consumes}
use Rattle.held_store.specs.declared.held.TheConstants.{PIECE}
use Rattle.held_store.specs.Images.{images_text}
use Rattle.held_store.proofs.held.read_images.Given as goal

abbrev pub invariant-loop : goal.invariant-loop
invariant-loop g l = record {
  room : vec_len l.room ≡ PIECE;
  size : length (images_text l.images) ≡ l.size;
  failures : g.S.Source.failures l.source ≡ g.S.Source.failures l.fn.source;
  read : Consumes (g.S.Source.left l.fn.source) (g.S.Source.left l.source) (images_text l.images);
}
