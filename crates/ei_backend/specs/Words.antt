-- Messages whose arguments are numbers alone, as words of 32 bits.
use Rattle.std.specs.Prelude.{ℕ, List}
use Rattle.std.specs.List.{flat_map}
use Rattle.ei_spec.specs.Message.{Raw, le4}

-- the bytes of words, each with its least byte first
abbrev pub word_bytes : List ℕ → List ℕ
word_bytes words = flat_map le4 words

-- the message of these words
abbrev pub of_words : ℕ → ℕ → List ℕ → Raw
of_words id opcode words = record { id = id; opcode = opcode; body = word_bytes words }
