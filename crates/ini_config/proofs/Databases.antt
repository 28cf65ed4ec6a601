-- A database by its name.
use Rattle.std.proofs.Common.{◌≡◌, ℕ, List, [], ◌∷◌, map, String, Global, string_bytes, unwrap_or, refl, ap, sym, ◌∙◌}
use Rattle.std.specs.Prelude.{position}
use Rattle.std.specs.Str.{bytes_eq}
use Rattle.ini_config.specs.declared.entry.DatabaseEntry.{DatabaseEntry}
use Rattle.ini_config.specs.Node.{DatabaseSettings}
use Rattle.ini_config.specs.View.{database_settings}
use Rattle.ini_config.proofs.Places.{position-map}

-- the place of a name among the keys is that among the databases
pub place_by_name : (name : List ℕ) (pool : ℕ) (es : List (String Global × DatabaseEntry))
    → position (λ (k : String Global). bytes_eq name (string_bytes k)) (map (λ e. e.0) es) ≡ position (λ (d : DatabaseSettings). bytes_eq name d.name) (map (λ e. database_settings pool (string_bytes e.0) e.1) es)
place_by_name name pool es = position-map (λ k. bytes_eq name (string_bytes k)) (λ e. e.0) es ∙ sym (position-map (λ (d : DatabaseSettings). bytes_eq name d.name) (λ e. database_settings pool (string_bytes e.0) e.1) es)

-- the pool sizes of the databases, as they are kept
pub pools-values : (pool : ℕ) (es : List (String Global × DatabaseEntry))
    → map (λ (d : DatabaseEntry). unwrap_or d.pool_size pool) (map (λ e. e.1) es) ≡ map (λ (d : DatabaseSettings). d.pool_size) (map (λ e. database_settings pool (string_bytes e.0) e.1) es)
pools-values pool [] = refl
pools-values pool (e ∷ es) = ap (λ l. unwrap_or e.1.pool_size pool ∷ l) (pools-values pool es)
