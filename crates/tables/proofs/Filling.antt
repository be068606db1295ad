-- The pass that fills both tables: the first b entries of each are filled, and `sum` counts the marks below block b. Assumes nothing.
use mathlib.Core.Path.{◌≡◌, ap, sym, ◌∙◌}
use mathlib.Core.List.{List}
use Prim.Native.Nat.{ℕ, ◌+◌, ◌*◌, ◌^◌, ◌≤◌, ◌<◌}
use native.Mathlib.Omega.{arith}
use borrow.Author.Count.{below_none, below_more}
use lib.ListN.{length, get_or, set, length-set}
use lib.Seq.{get_or-set_same, get_or-set_other}
use Rattle.meaning.specs.Limits.{block_words, table_entries}
use Rattle.meaning.specs.Places.{below, bit_set, marked, bits_from, bitmap}
use Rattle.meaning.proofs.Counting.{below-zero}
use Rattle.meaning.proofs.Bitmaps.{word_ext, bits_fit, bits_at, is_table, marked-block, below-block}
use Rattle.meaning.proofs.LookupsInverse.{Exact, tables-exact}
use Rattle.tables.specs.Filled.{Filled}

-- the first b entries of a table are those of f
abbrev First : ℕ → List ℕ → (ℕ → ℕ) → Type 0
First b table f = (i : ℕ) → i < b → get_or table i 0 ≡ f i

first_more : (b : ℕ) (table : List ℕ) (f : ℕ → ℕ) (entry : ℕ) → b < length table → entry ≡ f b → First b table f → First (b + 1) (set table b entry) f
first_more b table f entry h e a =
    below_more (λ i. get_or (set table b entry) i 0 ≡ f i) b
    (λ i l. get_or-set_other table b i entry 0 (λ q. absurd (omega arith)) ∙ a i l)
    (get_or-set_same table b entry 0 h ∙ e)

module _ (words : List ℕ) where
  -- what the tables hold for block b
  abbrev bits_of : ℕ → ℕ
  bits_of b = bits_from (marked words) (block_words * b) block_words

  abbrev offset_of : ℕ → ℕ
  offset_of b = below (marked words) (block_words * b)

  -- a bitmap's word is the bits of its marks
  word-bits : (b : ℕ) → get_or words b 0 < 2 ^ block_words → get_or words b 0 ≡ bits_of b
  word-bits b h =
      word_ext block_words (get_or words b 0) (bits_of b) h (bits_fit (marked words) (block_words * b) block_words)
      (λ i l. sym (marked-block words b i l) ∙ sym (bits_at (marked words) (block_words * b) block_words i l))

  module _ (n : ℕ) where
    pub record Filling (live offsets : List ℕ) (sum b : ℕ) : Type 0 where
      pub live-length : length live ≡ n
      pub offsets-length : length offsets ≡ n
      pub counted : sum ≡ offset_of b
      pub bits : First b live bits_of
      pub entries : First b offsets offset_of

    pub filling-start : (live offsets : List ℕ) → length live ≡ n → length offsets ≡ n → Filling live offsets 0 0
    filling-start live offsets e f = record {
      live-length = e;
      offsets-length = f;
      counted = sym (below-zero (marked words));
      bits = below_none (λ i. get_or live i 0 ≡ bits_of i);
      entries = below_none (λ i. get_or offsets i 0 ≡ offset_of i);
    }

    pub filling-next : (live offsets : List ℕ) (sum b here : ℕ) → b < n → get_or words b 0 < 2 ^ block_words
        → here ≡ below (bit_set (get_or words b 0)) block_words → Filling live offsets sum b
        → Filling (set live b (get_or words b 0)) (set offsets b sum) (sum + here) (b + 1)
    filling-next live offsets sum b here h fits e i =
        let next : offset_of (b + 1) ≡ below (marked words) (block_words * b + block_words) = ap (below (marked words)) (omega arith) in
        record {
          live-length = simp length-set i.live-length;
          offsets-length = simp length-set i.offsets-length;
          counted = omega (arith, next, below-block words b block_words (omega arith));
          bits = first_more b live bits_of (get_or words b 0) (omega arith) (word-bits b fits) i.bits;
          entries = first_more b offsets offset_of sum (omega arith) i.counted i.entries;
        }

    pub filling-end : (live offsets : List ℕ) (sum : ℕ) → Filling live offsets sum n → Filled words n live offsets sum
    unfolding bitmap
    filling-end live offsets sum i = record {
      bits = is_table bits_of live n i.live-length i.bits;
      entries = is_table offset_of offsets n i.offsets-length i.entries;
      count = i.counted;
    }

    -- the tables that the pass leaves are exact
    pub filled-exact : (live offsets : List ℕ) (total : ℕ) → n ≤ table_entries → Filled words n live offsets total → Exact live offsets
    filled-exact live offsets total h f = rw (f.bits, f.entries) (tables-exact (marked words) n h)
