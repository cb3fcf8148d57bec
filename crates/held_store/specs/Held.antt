-- A store without the zeros at the ends of its images (own).
use Rattle.std.specs.Prelude.{ℕ, List, ◌++◌, take, drop}
use Rattle.held_store.specs.declared.held.HeldStore.{HeldStore}
use Rattle.held_store.specs.Images.{images_text}

-- all bytes: as many as there are of the header and the images after it
abbrev pub held_text : HeldStore → List ℕ
held_text held = take held.size (held.header ++ images_text held.images)

-- the bytes that are left to be read
abbrev pub bytes_left : HeldStore → List ℕ
bytes_left held = drop held.place (held_text held)
