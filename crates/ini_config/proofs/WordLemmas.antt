-- Words from left to right, as a loop reads them.
use Rattle.std.proofs.Common.{◌≡◌, ◌⊎◌, inl, inr, ℕ, List, [], ◌∷◌, Ok, Err, refl}
use Rattle.ini_config.specs.declared.fault.IniCode.{IniCode}
use Rattle.ini_config.specs.declared.fault.IniCode.TheVariants.{Memory}
use Rattle.ini_config.specs.declared.words.EntryKind.{EntryKind}
use Rattle.ini_config.specs.Entry.{Words, word_read, words_read}

module _ (k : EntryKind) (w : Words) (all : List (List ℕ)) where
  -- one more word
  pub words_go : (v : Words) (text : List ℕ) (more : List (List ℕ)) → all ≡ text ∷ more → word_read k w text ≡ Ok v → words_read k w all ≡ words_read k v more
  unfolding words_read
  words_go v text more e read = rw (e, read) refl

  -- a word that is refused
  pub words_stop : (text : List ℕ) (more : List (List ℕ)) (c : IniCode) → all ≡ text ∷ more → (c ≡ Memory) ⊎ (word_read k w text ≡ Err c) → (c ≡ Memory) ⊎ (words_read k w all ≡ Err c)
  unfolding words_read
  words_stop text more c e (inl m) = inl m
  words_stop text more c e (inr read) = inr (rw (e, read) refl)

  -- no word is left
  pub words_done : all ≡ [] → words_read k w all ≡ Ok w
  unfolding words_read
  words_done e = rw e refl
