-- A digest of a row's 64 octets: their eight words, each mixed in with what there is. Assumes nothing.
use Rattle.std.specs.Prelude.{◌≡◌, ℕ, zero, suc, ◌+◌, ◌*◌, ◌/◌, ◌%◌, ◌^◌, ◌<◌, List, slice_index}
use Rattle.std.proofs.Common.{add-one, arith, get_or-take, get_or-drop}
use Rattle.table_mailboxes.specs.Columns.{block}

-- eight octets from a place on as one number, the first the least
abbrev pub word : List ℕ → ℕ → ℕ
word l at =
    slice_index l at
    + 256 * slice_index l (at + 1)
    + 65536 * slice_index l (at + 2)
    + 16777216 * slice_index l (at + 3)
    + 4294967296 * slice_index l (at + 4)
    + 1099511627776 * slice_index l (at + 5)
    + 281474976710656 * slice_index l (at + 6)
    + 72057594037927936 * slice_index l (at + 7)

-- three times the digest and a word, in 64 bits
abbrev pub mixed : ℕ → ℕ → ℕ
mixed d w = (((d + d) % 2 ^ 64 + d) % 2 ^ 64 + w) % 2 ^ 64

-- the first i words of the octets
unfoldable pub mixed_up : List ℕ → ℕ → ℕ
mixed_up l zero = 0
mixed_up l (suc i) = mixed (mixed_up l i) (word l (8 * i))

-- the two halves together
abbrev pub folded : ℕ → ℕ
folded d = d % 4294967296 + d / 4294967296

abbrev pub digest : List ℕ → ℕ
digest l = folded (mixed_up l 8)

module _ (names : List ℕ) (k : ℕ) where
  octet_at_lem : (at j : ℕ) → at ≡ 64 * k + j → j < 64 → slice_index names at ≡ slice_index (block names k) j
  octet_at_lem at j e h = rw (e, get_or-take, get_or-drop)

  pub word_at : (i : ℕ) → i < 8 → word names (64 * k + 8 * i) ≡ word (block names k) (8 * i)
  word_at i h = rw (
    octet_at_lem (64 * k + 8 * i) (8 * i) (omega arith) (omega arith),
    octet_at_lem (64 * k + 8 * i + 1) (8 * i + 1) (omega arith) (omega arith),
    octet_at_lem (64 * k + 8 * i + 2) (8 * i + 2) (omega arith) (omega arith),
    octet_at_lem (64 * k + 8 * i + 3) (8 * i + 3) (omega arith) (omega arith),
    octet_at_lem (64 * k + 8 * i + 4) (8 * i + 4) (omega arith) (omega arith),
    octet_at_lem (64 * k + 8 * i + 5) (8 * i + 5) (omega arith) (omega arith),
    octet_at_lem (64 * k + 8 * i + 6) (8 * i + 6) (omega arith) (omega arith),
    octet_at_lem (64 * k + 8 * i + 7) (8 * i + 7) (omega arith) (omega arith),
  )

  pub mixed_next : (i d w r : ℕ) → i < 8 → d ≡ mixed_up (block names k) i → w ≡ word names (64 * k + 8 * i) → r ≡ mixed d w → r ≡ mixed_up (block names k) (i + 1)
  unfolding mixed_up
  mixed_next i d w r h e f g = rw (add-one, g, e, f, word_at i h)
