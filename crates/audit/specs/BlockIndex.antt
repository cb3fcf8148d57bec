-- An index of blocks by their numbers, in buckets of eight entries (own).
use Rattle.std.specs.Prelude.{◌≡◌, ◌≢◌, ◌<◌, ◌⊎◌, ℕ, List, [], Option, Some, None, Bool, false, ◌==◌, ◌+◌, ◌*◌, ◌/◌, ◌%◌, ◌^◌, max, length, slice_get, slice_index_or}
use Rattle.std.specs.Ordering.{nat_cmp}
use Rattle.std.specs.BTreeMap.{get}
use Rattle.audit.specs.declared.finish_table.Block.{Block}
use Rattle.audit.specs.declared.block_index.BlockIndex.{BlockIndex}
use Rattle.audit.specs.declared.block_index.TheConstants.{ENTRIES, FREE, FACTOR, SECOND_FACTOR, HALF}

-- the halves of a number of 32 bits change places
unfoldable pub halves_changed : ℕ → ℕ
halves_changed x = x % HALF * HALF + x / HALF

-- the hash of a number, of 32 bits
unfoldable pub hash_of : ℕ → ℕ
hash_of number = halves_changed (number * FACTOR % 2 ^ 32) * SECOND_FACTOR % 2 ^ 32

-- the bucket of a hash, if there are this many buckets
unfoldable pub home_of : (hash count : ℕ) → ℕ
home_of hash count = hash * count % 2 ^ 64 / 2 ^ 32

-- the tag of a hash, which is never that of a free entry
unfoldable pub tag_of : (hash : ℕ) → ℕ
tag_of hash = max (hash % 2 ^ 8) 1

-- whether the block at this place has this number
abbrev pub has_at : List Block → (number place : ℕ) → Bool
has_at blocks number place = is_number number (slice_get blocks place)
  where
    is_number : ℕ → Option Block → Bool
    is_number n None = false
    is_number n (Some b) = b.number == n

-- the bucket of a hash
abbrev pub bucket_of : BlockIndex → (hash : ℕ) → ℕ
bucket_of index hash = home_of hash (length index.tags.items)

-- the tag and the place of an entry
abbrev pub tag_at : BlockIndex → (bucket entry : ℕ) → ℕ
tag_at index bucket entry = slice_index_or (slice_index_or index.tags.items bucket []) entry FREE

abbrev pub place_at : BlockIndex → (bucket entry : ℕ) → ℕ
place_at index bucket entry = slice_index_or (slice_index_or index.places.items bucket []) entry 0

-- a bucket and an entry of it: the bucket is that of a hash, and the entry is free
abbrev pub IsFree : BlockIndex → (hash : ℕ) → ℕ × ℕ → Type 0
IsFree index hash p = (p.0 ≡ bucket_of index hash) × (p.0 < length index.tags.items) × (p.1 < ENTRIES) × (tag_at index p.0 p.1 ≡ FREE)

-- no entry is free in the bucket of a hash, or there is no bucket
abbrev pub IsFull : BlockIndex → (hash : ℕ) → Type 0
IsFull index hash = bucket_of index hash < length index.tags.items → tag_at index (bucket_of index hash) 7 ≢ FREE

-- an entry has the tag of a number, and this place
pub record IsEntry (index : BlockIndex) (number place entry : ℕ) : Type 0 where
  pub within : entry < ENTRIES
  pub tagged : tag_at index (bucket_of index (hash_of number)) entry ≡ tag_of (hash_of number)
  pub placed : place_at index (bucket_of index (hash_of number)) entry ≡ place

-- an index has this place of a number: in an entry, or among the others
abbrev pub IsKept : BlockIndex → (number place : ℕ) → Type 0
IsKept index number place =
    ((entry : ℕ) × IsEntry index number place entry)
    ⊎ (IsFull index (hash_of number) × (get nat_cmp index.others number ≡ Some place))
