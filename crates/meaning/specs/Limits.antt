-- The limits, each once.
use Rattle.std.specs.Prelude.{ℕ, ◌+◌, ◌-◌, ◌/◌}

-- words of a heap, at most
abbrev pub heap_words : ℕ
heap_words = 8192

-- root slots, at most
abbrev pub root_slots : ℕ
root_slots = 64

-- entries of a block order, at most
abbrev pub order_entries : ℕ
order_entries = 128

-- payload words of an object, at most
abbrev pub payload_words : ℕ
payload_words = 1023

-- words of a block; a bitmap word has a bit for each
abbrev pub block_words : ℕ
block_words = 64

-- how many blocks n words take: n / 64, rounded up
abbrev pub blocks_of : ℕ → ℕ
blocks_of n = (n + (block_words - 1)) / block_words

-- entries of a live or offset table, at most
abbrev pub table_entries : ℕ
table_entries = blocks_of heap_words
