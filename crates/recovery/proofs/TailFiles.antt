-- The file of a tail: its sums, and how it is read again.
use Rattle.std.proofs.Common.{ℕ, ◌≡◌, ◌+◌, ◌-◌, ◌*◌, ◌%◌, ◌^◌, ◌<◌, ◌≤◌, List, [], ◌∷◌, ◌++◌, length, take, drop, get_or, refl, sym, ap, ap₂, subst, ◌∙◌, arith, Option, Some, None, length-append}
use Rattle.std.proofs.lemmas.List.{take_more, take_all, take_at, drop_at, take-append-drop}
use Rattle.std.specs.Prelude.{bit_xor, Bool, true, false, not}
use Rattle.std.specs.Str.{bytes_eq}
use Rattle.std.proofs.lemmas.Slice.Eq.{bytes_eq-Decides}
use Rattle.std.specs.Int.{w64, from_be_bytes, to_be_bytes}
use Rattle.std.proofs.lemmas.Nat.{from_be_bytes-to_be_bytes_8}
use Rattle.std.proofs.KnownBytes.{Appends-trans}
use Rattle.std.specs.Io.KnownBytes.{Appends, Keeps}
use Rattle.device.specs.Transfer.{TookBeginning}
use Rattle.recovery.proofs.Delivered.{behind_front}
use Rattle.recovery.proofs.Taken.{begins_longer}
use Rattle.recovery.specs.TailFile.{sum_on, sum_of, head_of, front_of, tail_text}

-- THE SUM
-- is continued with the bytes after
pub sum_on-append : (sum : ℕ) (xs ys : List ℕ) → sum_on sum (xs ++ ys) ≡ sum_on (sum_on sum xs) ys
sum_on-append sum [] ys = refl
sum_on-append sum (x ∷ xs) ys = sum_on-append ((bit_xor sum x * 0x0000_0100_0000_01b3) % 2 ^ 64) xs ys

-- and with one more byte
pub sum_more : (first sum next : ℕ) (bytes : List ℕ) (i : ℕ) → i < length bytes → sum ≡ sum_on first (take i bytes)
    → next ≡ (bit_xor sum (get_or bytes i 0) * 0x0000_0100_0000_01b3) % 2 ^ 64 → next ≡ sum_on first (take (i + 1) bytes)
sum_more first sum next bytes i lt so_far is =
    is ∙ ap (λ s. (bit_xor s (get_or bytes i 0) * 0x0000_0100_0000_01b3) % 2 ^ 64) so_far
    ∙ sym (sum_on-append first (take i bytes) (get_or bytes i 0 ∷ [])) ∙ ap (sum_on first) (sym (take_more bytes i 0 lt))

-- THE PARTS of the file
pub tail_is : (log kept end cut : ℕ) (frames head sum : List ℕ) → head ≡ head_of log kept (length frames) end cut → sum ≡ to_be_bytes w64 (sum_of (front_of log kept end cut frames))
    → tail_text log kept end cut frames ≡ (head ++ frames) ++ sum
unfolding tail_text front_of
tail_is log kept end cut frames head sum e f = sym (ap (λ (t : List ℕ). (t ++ frames) ++ sum) e ∙ ap (λ (t : List ℕ). (head_of log kept (length frames) end cut ++ frames) ++ t) f)

pub front_is : (log kept end cut : ℕ) (frames : List ℕ) → front_of log kept end cut frames ≡ head_of log kept (length frames) end cut ++ frames
unfolding front_of
front_is log kept end cut frames = refl

pub head_length : (log kept tail end cut : ℕ) → length (head_of log kept tail end cut) ≡ 48
unfolding head_of
head_length log kept tail end cut = refl

-- the numbers are at their offsets
pub head_numbers : (log kept tail end cut : ℕ) → log < 2 ^ 64 → kept < 2 ^ 64 → end < 2 ^ 64 → cut < 2 ^ 64 → let head = head_of log kept tail end cut in
    (from_be_bytes w64 (take 8 (drop 8 head)) ≡ log) × (from_be_bytes w64 (take 8 (drop 16 head)) ≡ kept) × (from_be_bytes w64 (take 8 (drop 32 head)) ≡ end) × (from_be_bytes w64 (take 8 (drop 40 head)) ≡ cut)
unfolding head_of
head_numbers log kept tail end cut l k e t =
    (from_be_bytes-to_be_bytes_8 log l, from_be_bytes-to_be_bytes_8 kept k, from_be_bytes-to_be_bytes_8 end e, from_be_bytes-to_be_bytes_8 cut t)

-- WRITTEN in three pieces
module _ (head frames sum text : List ℕ) (is : text ≡ (head ++ frames) ++ sum) where
  pub first_begun : (a b : Option (List ℕ)) → TookBeginning a b head → TookBeginning a b text
  first_begun a b h = subst (TookBeginning a b) (sym is) (begins_longer a b (head ++ frames) sum (begins_longer a b head frames h))

  pub second_begun : (a b c : Option (List ℕ)) → Appends a b head → TookBeginning b c frames → TookBeginning a c text
  second_begun a b c h k = subst (TookBeginning a c) (sym is) (begins_longer a c (head ++ frames) sum (behind_front a b c head frames h k))

  pub third_begun : (a b c d : Option (List ℕ)) → Appends a b head → Appends b c frames → TookBeginning c d sum → TookBeginning a d text
  third_begun a b c d h k m = subst (TookBeginning a d) (sym is) (behind_front a c d (head ++ frames) sum (Appends-trans a b c head frames h k) m)

  pub all_out : (a b c d : Option (List ℕ)) → Appends a b head → Appends b c frames → Appends c d sum → Appends a d text
  all_out a b c d h k m = subst (Appends a d) (sym is) (Appends-trans a c d (head ++ frames) sum (Appends-trans a b c head frames h k) m)

-- what was flushed is written
pub still_out : (a b c : Option (List ℕ)) (text : List ℕ) → Appends a b text → Keeps b c → Appends a c text
still_out None b c text h k = tt
still_out (Some x) None c text h k = absurd h
still_out (Some x) (Some y) None text h k = absurd k
still_out (Some x) (Some y) (Some z) text h k = k ∙ h

pub took_all : (a b : Option (List ℕ)) (text : List ℕ) → Appends a b text → TookBeginning a b text
took_all a b text h = (length text, omega arith, subst (Appends a b) (sym (take_all (length text) text (omega arith))) h)

-- COMPARED
not_false : (b : Bool) → false ≡ not b → b ≡ true
not_false true e = refl
not_false false e = absurd cc

not_true : (b : Bool) → true ≡ not b → b ≡ false
not_true true e = absurd cc
not_true false e = refl

pub same_bytes : (xs ys : List ℕ) → false ≡ not (bytes_eq xs ys) → xs ≡ ys
same_bytes xs ys e = (bytes_eq-Decides xs ys).0 (not_false (bytes_eq xs ys) e)

pub other_bytes : (xs ys : List ℕ) → true ≡ not (bytes_eq xs ys) → xs ≡ ys → ⊥
other_bytes xs ys e same =
    let yes = (bytes_eq-Decides xs ys).1 same in
    let no = not_true (bytes_eq xs ys) e in
    absurd cc

-- READ AGAIN
-- the file is cut where its parts meet
pub record Parts (log kept end cut : ℕ) (frames text : List ℕ) : Type 0 where
  pub long : 56 ≤ length text
  pub front : take (length text - 8) text ≡ front_of log kept end cut frames
  pub sum : drop (length text - 8) text ≡ to_be_bytes w64 (sum_of (front_of log kept end cut frames))
  pub head : take 48 (front_of log kept end cut frames) ≡ head_of log kept (length frames) end cut
  pub rest : drop 48 (front_of log kept end cut frames) ≡ frames

pub parts_of : (log kept end cut : ℕ) (frames text : List ℕ) → text ≡ tail_text log kept end cut frames → Parts log kept end cut frames text
unfolding tail_text
parts_of log kept end cut frames text is =
    let front = front_of log kept end cut frames in
    let head = head_of log kept (length frames) end cut in
    let sum = to_be_bytes w64 (sum_of front) in
    let eight : length sum ≡ 8 = refl in
    let size : length text ≡ length front + 8 = ap length is ∙ length-append front sum in
    let fronted : length front ≡ 48 + length frames = ap length (front_is log kept end cut frames) ∙ length-append head frames ∙ ap (λ n. n + length frames) (head_length log kept (length frames) end cut) in
    let at : length text - 8 ≡ length front = omega (arith, size) in
    let seam = sym at in
    record {
      long = omega (arith, size, fronted);
      front = ap (λ n. take n text) at ∙ ap (take (length front)) is ∙ take_at front sum (length front) refl;
      sum = ap (λ n. drop n text) at ∙ ap (drop (length front)) is ∙ drop_at front sum (length front) refl;
      head = ap (take 48) (front_is log kept end cut frames) ∙ take_at head frames 48 (head_length log kept (length frames) end cut);
      rest = ap (drop 48) (front_is log kept end cut frames) ∙ drop_at head frames 48 (head_length log kept (length frames) end cut);
    }

-- what is read of the parts of a whole file makes the same parts
pub read_again : (log kept end cut : ℕ) (frames text front sum head rest : List ℕ) (one two three four : ℕ) → log < 2 ^ 64 → kept < 2 ^ 64 → end < 2 ^ 64 → cut < 2 ^ 64 → text ≡ tail_text log kept end cut frames
    → front ≡ take (length text - 8) text → sum ≡ drop (length text - 8) text → head ≡ take 48 front → rest ≡ drop 48 front
    → one ≡ from_be_bytes w64 (take 8 (drop 8 head)) → two ≡ from_be_bytes w64 (take 8 (drop 16 head)) → three ≡ from_be_bytes w64 (take 8 (drop 32 head)) → four ≡ from_be_bytes w64 (take 8 (drop 40 head))
    → (head ≡ head_of one two (length rest) three four) × (sum ≡ to_be_bytes w64 (sum_of (front_of one two three four rest)))
read_again log kept end cut frames text front sum head rest one two three four l k e t is front_e sum_e head_e rest_e one_e two_e three_e four_e =
    let p = parts_of log kept end cut frames text is in
    let all = front_e ∙ p.front in
    let head_is : head ≡ head_of log kept (length frames) end cut = head_e ∙ ap (take 48) all ∙ p.head in
    let rest_is : rest ≡ frames = rest_e ∙ ap (drop 48) all ∙ p.rest in
    let sum_is : sum ≡ to_be_bytes w64 (sum_of (front_of log kept end cut frames)) = sum_e ∙ p.sum in
    let numbers = head_numbers log kept (length frames) end cut l k e t in
    let one_is : one ≡ log = one_e ∙ ap (λ (h : List ℕ). from_be_bytes w64 (take 8 (drop 8 h))) head_is ∙ numbers.0 in
    let two_is : two ≡ kept = two_e ∙ ap (λ (h : List ℕ). from_be_bytes w64 (take 8 (drop 16 h))) head_is ∙ numbers.1 in
    let three_is : three ≡ end = three_e ∙ ap (λ (h : List ℕ). from_be_bytes w64 (take 8 (drop 32 h))) head_is ∙ numbers.2 in
    let four_is : four ≡ cut = four_e ∙ ap (λ (h : List ℕ). from_be_bytes w64 (take 8 (drop 40 h))) head_is ∙ numbers.3 in
    let same_head : head_of one two (length rest) three four ≡ head_of log kept (length frames) end cut = cc in
    let same_front : front_of one two three four rest ≡ front_of log kept end cut frames = cc in
    (head_is ∙ sym same_head, sum_is ∙ ap (λ (t : List ℕ). to_be_bytes w64 (sum_of t)) (sym same_front))

-- and bytes with such parts are a whole file
pub is_file : (text front sum head rest : List ℕ) (one two three four m : ℕ) → front ≡ take m text → sum ≡ drop m text → head ≡ take 48 front → rest ≡ drop 48 front
    → head ≡ head_of one two (length rest) three four → sum ≡ to_be_bytes w64 (sum_of (front_of one two three four rest)) → text ≡ tail_text one two three four rest
is_file text front sum head rest one two three four m front_e sum_e head_e rest_e head_is sum_is =
    let parts : (head ++ rest) ++ sum ≡ text =
    ap₂ (λ (h r : List ℕ). (h ++ r) ++ sum) head_e rest_e ∙ ap (λ (t : List ℕ). t ++ sum) (take-append-drop 48 front)
    ∙ ap₂ (λ (t r : List ℕ). t ++ r) front_e sum_e ∙ take-append-drop m text in
    sym parts ∙ sym (tail_is one two three four rest head sum head_is sum_is)
