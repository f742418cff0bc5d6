use Rattle.std.proofs.Common.{◌≡◌, ℕ, List, [], ◌∷◌, length, Bool, ap, ◌∙◌, refl, rules, string_bytes, String, Global}
use borrow.Author.Tests.{tests}
use Rattle.std.specs.Map.{keys_of}
use Rattle.std.specs.Map.Iter.{TakesFirst, deref}
use Rattle.std.specs.List.{list_any, list_all}
use Rattle.std.specs.Str.{bytes_eq}
use Rattle.std.proofs.lemmas.Iterator.Search.{all_from_yields_List}
use Rattle.std.proofs.lemmas.Iterator.Consumers.{YieldsList-from_shown}
use Rattle.toml.proofs.Views.{Entry}
use Rattle.toml.specs.View.{members_view}
use Rattle.cache_cli.specs.SettingsFile.{has_only, setting_names}
use Rattle.cache_cli.proofs.settings_file.has_names.Goals as goal

-- a key is one of these names
abbrev is_named : List (List ℕ) → String Global → Bool
is_named names key = list_any (λ name. bytes_eq name (string_bytes key)) names

only_names : (names : List (List ℕ)) (es : List Entry) → list_all (is_named names) (keys_of es) ≡ has_only names (members_view es)
only_names names [] = refl
only_names names (e ∷ es) = rw (only_names names es)

pub returns : goal.returns
returns c =
    let keys = YieldsList-from_shown (TakesFirst (deref {X = String Global})) deref (λ s. s) (λ s t step. ap length step.0) (λ s x t step. step) c.keys.result in
    all_from_yields_List (is_named setting_names) _ _ _ c.all.ensures.ran keys (λ x b q k. search (rules, tests)) ∙ rw c.keys.ensures.rest (only_names setting_names c.args.table.now.entries)
