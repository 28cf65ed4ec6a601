-- The settings that were given, in all.
use Rattle.std.proofs.Common.{◌≡◌, ℕ, ◌+◌, true, false, List, [], ◌∷◌, map, Some, Ok, Err, String, Global, string_bytes, refl, sym, ap, ◌∙◌, ltb, leb, arith}
use Rattle.std.specs.Prelude.{sum_by, unwrap_or}
use Rattle.std.proofs.lemmas.Bool.Decides.{nat_tests}
use Rattle.std.proofs.lemmas.List.Sums.{sum_by-cons}
use Rattle.ini_config.specs.declared.fault.IniCode.TheVariants.{OutOfRange}
use Rattle.ini_config.specs.declared.entry.DatabaseEntry.{DatabaseEntry}
use Rattle.ini_config.specs.declared.keys.PoolMode.{PoolMode}
use Rattle.ini_config.specs.declared.keys.AuthType.{AuthType}
use Rattle.ini_config.specs.Node.{DatabaseSettings, pool_total}
use Rattle.ini_config.specs.Entry.{with_defaults}
use Rattle.ini_config.specs.Settings.{Given, node_given, in_total, settings_given}
use Rattle.ini_config.specs.View.{database_settings, databases_seen, links_of}

-- the databases with the defaults, as they are kept
pub defaults-seen : (pool : ℕ) (es : List (String Global × DatabaseEntry)) → map (with_defaults pool) (databases_seen es) ≡ map (λ e. database_settings pool (string_bytes e.0) e.1) es
defaults-seen pool [] = refl
defaults-seen pool (e ∷ es) = ap (λ ds. database_settings pool (string_bytes e.0) e.1 ∷ ds) (defaults-seen pool es)

-- and their links
pub total-seen : (pool : ℕ) (es : List (String Global × DatabaseEntry)) → sum_by (λ (d : DatabaseSettings). d.pool_size) (map (with_defaults pool) (databases_seen es)) ≡ links_of pool (map (λ e. e.1) es)
total-seen pool [] = refl
total-seen pool (e ∷ es) =
    sum_by-cons (λ (d : DatabaseSettings). d.pool_size) (database_settings pool (string_bytes e.0) e.1) (map (with_defaults pool) (databases_seen es))
    ∙ ap (λ n. unwrap_or e.1.pool_size pool + n) (total-seen pool es)
    ∙ sym (sum_by-cons (λ (d : DatabaseEntry). unwrap_or d.pool_size pool) e.1 (map (λ e. e.1) es))

module _ (g : Given) (mode : PoolMode) (auth : AuthType) (addr : List ℕ) (some_mode : g.keys.pool_mode ≡ Some mode) (some_auth : g.keys.auth_type ≡ Some auth) (some_addr : g.keys.listen_addr ≡ Some addr) where
  pub settings_given-within : leb (pool_total (node_given g addr)) 65535 ≡ true → settings_given g ≡ Ok (node_given g addr)
  unfolding settings_given in_total
  settings_given-within within = let not_above : ltb 65535 (pool_total (node_given g addr)) ≡ false = grind (arith, nat_tests) in rw (some_mode, some_auth, some_addr, not_above) refl

  pub settings_given-above : leb (pool_total (node_given g addr)) 65535 ≡ false → settings_given g ≡ Err OutOfRange
  unfolding settings_given in_total
  settings_given-above above = let over : ltb 65535 (pool_total (node_given g addr)) ≡ true = grind (arith, nat_tests) in rw (some_mode, some_auth, some_addr, over) refl
