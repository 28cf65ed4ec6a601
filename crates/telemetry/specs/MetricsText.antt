-- Lines of metrics (Prometheus manual, "Exposition formats", "Text-based format"), and in which
-- bucket of a histogram a value is counted (the same, "Histograms and summaries").
use Rattle.std.specs.Prelude.{ℕ, ◌≡◌, ◌<◌, ◌≤◌, ◌==◌, List, [], ◌∷◌, ◌++◌, cond, length, codes, decimal, flat_map, slice_index}

-- how a byte of a label's value is written: a backslash and a quote behind a backslash, a line feed
-- as a backslash and `n`, and any other as it is
abbrev pub escaped_byte : ℕ → List ℕ
escaped_byte byte = cond (byte == 92) (92 ∷ 92 ∷ [])
    (cond (byte == 34) (92 ∷ 34 ∷ []) (cond (byte == 10) (92 ∷ 110 ∷ []) (byte ∷ [])))

-- how a label's value is written
abbrev pub escaped : List ℕ → List ℕ
escaped value = flat_map escaped_byte value

-- a label: its name, `=`, and its value in quotes
abbrev pub label : List ℕ → List ℕ → List ℕ
label name value = name ++ 61 ∷ 34 ∷ escaped value ++ 34 ∷ []

-- labels, and one more behind a comma, unless it is the first
abbrev pub with_label : List ℕ → List ℕ → List ℕ
with_label [] one = one
with_label (byte ∷ labels) one = (byte ∷ labels) ++ 44 ∷ one

-- a line with a value: the name, the labels in braces, a blank, and the value
abbrev pub line : List ℕ → List ℕ → List ℕ → List ℕ
line name labels value = name ++ 123 ∷ labels ++ 125 ∷ 32 ∷ value ++ 10 ∷ []

-- such a line with a whole number, in digits
abbrev pub sample : List ℕ → List ℕ → ℕ → List ℕ
sample name labels value = line name labels (decimal value)

-- a value is counted at the first of these rising bounds that isn't below it, or behind the last
pub record IsBucketOf (bounds : List ℕ) (value place : ℕ) : Type 0 where
  pub within : place ≤ length bounds
  pub below : (k : ℕ) → k < place → slice_index bounds k < value
  pub here : place < length bounds → value ≤ slice_index bounds place
