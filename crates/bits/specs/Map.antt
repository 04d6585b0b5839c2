-- A page map: a page's key is file × 1,024 + page - 1, and its bit is digit key % 64 of word key / 64.
use Rattle.std.specs.Prelude.{List, [], ◌∷◌, Bool, cond, ◌&&◌, ℕ, zero, suc, ◌+◌, ◌-◌, ◌*◌, ◌/◌, ◌%◌, ◌^◌, get_or, set, eqb, leb, ltb}
use Rattle.std.specs.Int.Bits.{bit_or}

-- digit i of the word w, 0 or 1
abbrev pub digit : ℕ → ℕ → ℕ
digit w i = w / 2 ^ i % 2

-- the bit of key k in a map, 0 or 1
unfoldable pub bit : List ℕ → ℕ → ℕ
bit words k = digit (get_or words (k / 64) 0) (k % 64)

-- the map has the page
abbrev pub on : List ℕ → ℕ → Bool
on words k = eqb (bit words k) 1

-- k is one of the n keys from a on
abbrev pub one_of : ℕ → ℕ → ℕ → Bool
one_of a n k = leb a k && ltb k (a + n)

-- the map with v, 0 or 1, for the bit of key k
unfoldable pub put_bit : List ℕ → ℕ → ℕ → List ℕ
put_bit words k v = set words (k / 64) (get_or words (k / 64) 0 - bit words k * 2 ^ (k % 64) + v * 2 ^ (k % 64))

-- two maps joined, word by word: a bit is set where one of them has it
unfoldable pub joined : List ℕ → List ℕ → List ℕ
joined [] ys = ys
joined (x ∷ xs) [] = x ∷ xs
joined (x ∷ xs) (y ∷ ys) = bit_or x y ∷ joined xs ys

-- how many of the n bits from key a on are set
unfoldable pub ones : List ℕ → ℕ → ℕ → ℕ
ones words a zero = 0
ones words a (suc n) = ones words a n + bit words (a + n)

-- of the n keys from a on, the first whose bit is v; a + n where there is none
unfoldable pub next_bit : List ℕ → ℕ → ℕ → ℕ → ℕ
next_bit words v a zero = a
next_bit words v a (suc n) = cond (eqb (bit words a) v) a (next_bit words v (a + 1) n)

-- of the n keys from a on, the last whose bit is set, counted from 1 at a (a page, where a is a file's first key); 0 where there is none
unfoldable pub last_bit : List ℕ → ℕ → ℕ → ℕ
last_bit words a zero = 0
last_bit words a (suc n) = cond (eqb (bit words (a + n)) 1) (suc n) (last_bit words a n)
