-- Secrets drawn from a seed (own): words of ChaCha20 with a 64-bit block counter and a 64-bit
-- stream number, counted modulo 2^68.
use Rattle.std.specs.Prelude.{ℕ, ◌+◌, ◌%◌, ◌^◌, List}
use Rattle.rand_chacha.specs.ChaCha.{key_of, word_at}

-- eight words of key, the number of the stream, and how many words were drawn, modulo 2^68
pub record Drawing : Type 0 where
  pub key : List ℕ
  pub stream : ℕ
  pub drawn : ℕ

-- the stream of a node, from its first word on
abbrev pub drawing_of : List ℕ → ℕ → Drawing
drawing_of seed peer = record { key = key_of seed; stream = peer; drawn = 0 }

-- the word with this number, from 0; they repeat after 2^68, and ten double rounds are 20 rounds
abbrev pub secret_at : Drawing → ℕ → ℕ
secret_at drawing number = word_at 10 drawing.key drawing.stream (number % 2 ^ 68)

-- one more word was drawn
abbrev pub drawn_once : Drawing → Drawing
drawn_once drawing = record drawing { drawn = (drawing.drawn + 1) % 2 ^ 68 }
