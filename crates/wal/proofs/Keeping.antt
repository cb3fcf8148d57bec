-- What a failed write leaves in front.
use Rattle.std.proofs.Common.{◌≡◌, ℕ, Bool, true, false, cond, List, [], ◌∷◌, ◌++◌, length, take, refl, sym, ap, ◌∙◌, append_assoc}
use Rattle.std.proofs.lemmas.List.{take_at, append-nil, flat_map_more}
use Rattle.std.specs.List.{flat_map}
use Rattle.wal.specs.Content.{Keeps}

pub keeps_same : (old : List ℕ) → Keeps old old
keeps_same old = record { more = []; is = sym (append-nil old) }

pub keeps_then : (old mid new : List ℕ) → Keeps old mid → Keeps mid new → Keeps old new
keeps_then old mid new a b = record { more = a.more ++ b.more; is = b.is ∙ ap (λ (x : List ℕ). x ++ b.more) a.is ∙ append_assoc old a.more b.more }

pub keeps_equal : (old new : List ℕ) → new ≡ old → Keeps old new
keeps_equal old new e = record { more = []; is = e ∙ sym (append-nil old) }

pub keeps_is : (old more new : List ℕ) → new ≡ old ++ more → Keeps old new
keeps_is old more new e = record { more = more; is = e }

-- one more write, done or refused
pub keeps_if : (b : Bool) (old mid more new : List ℕ) → Keeps old mid → new ≡ cond b (mid ++ more) mid → Keeps old new
keeps_if true old mid more new a e = keeps_then old mid new a (keeps_is mid more new e)
keeps_if false old mid more new a e = record { more = a.more; is = e ∙ a.is }

-- what is left when the rest is cut off
pub cut_back : (old new : List ℕ) → Keeps old new → take (length old) new ≡ old
cut_back old new k = ap (take (length old)) k.is ∙ take_at old k.more (length old) refl

-- the head of a frame, and its fields in parts
pub head_cell : (old head plain page slot d e m1 m2 m3 : List ℕ) → m1 ≡ old ++ (head ++ (plain ++ (page ++ slot))) → m2 ≡ m1 ++ d → m3 ≡ m2 ++ e
    → m3 ≡ old ++ (head ++ (plain ++ (page ++ (slot ++ (d ++ e)))))
head_cell old head plain page slot d e m1 m2 m3 p q r = rw (r, q, p) (simp append_assoc)

pub head_three : (old head a b c m1 m2 m3 m4 : List ℕ) → m1 ≡ old ++ head → m2 ≡ m1 ++ a → m3 ≡ m2 ++ b → m4 ≡ m3 ++ c → m4 ≡ old ++ (head ++ (a ++ (b ++ c)))
head_three old head a b c m1 m2 m3 m4 p q r s = rw (s, r, q, p) (simp append_assoc)

-- the parts of a frame's head
pub head_parts : (old length lsn fields new : List ℕ) (kind : ℕ) → new ≡ old ++ ((length ++ (kind ∷ lsn)) ++ fields) → new ≡ old ++ (length ++ (kind ∷ lsn ++ fields))
head_parts old length lsn fields new kind p = rw p (simp append_assoc)

-- a table with one more entry
pub table_more : {E : Type 0} (spell : E → List ℕ) (old count mid new : List ℕ) (entries : List E) (e : E) → mid ≡ old ++ (count ++ flat_map spell entries) → new ≡ mid ++ spell e
    → new ≡ old ++ (count ++ flat_map spell (entries ++ e ∷ []))
table_more spell old count mid new entries e p q =
    q ∙ ap (λ (x : List ℕ). x ++ spell e) (p ∙ sym (append_assoc old count (flat_map spell entries)))
    ∙ flat_map_more spell (old ++ count) entries e ∙ append_assoc old count (flat_map spell (entries ++ e ∷ []))
