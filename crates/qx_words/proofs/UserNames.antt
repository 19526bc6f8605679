-- The names of users, and one more.
use Rattle.std.proofs.Common.{◌≡◌, ◌≢◌, ℕ, ◌<◌, ◌≤◌, Bool, true, false, List, [], ◌∷◌, ◌++◌, length, get_or, arith, sym, ◌∙◌, true≢false}
use Rattle.std.specs.Prelude.{All, IsTrue}
use Rattle.std.specs.List.{list_any}
use Rattle.std.specs.Str.{bytes_eq}
use Rattle.std.proofs.lemmas.List.{length_push}
use Rattle.std.proofs.lemmas.List.Elements.{All-append, All-cons, All-nil}
use Rattle.std.proofs.lemmas.List.Folds.{list_any_at}
use Rattle.std.proofs.lemmas.List.Quantifiers.{all_pairs_push}
use Rattle.std.proofs.lemmas.Slice.Eq.{bytes_eq-Decides}
use Rattle.qx_types.specs.Configuration.{IsConfiguration, is_user_name}
use Rattle.qx_types.specs.declared.limits.TheConstants.Limits.{USERS, WORKERS}

none_at : {A : Type 0} (p : A → Bool) (xs : List A) → list_any p xs ≡ false → (k : ℕ) (d : A) → k < length xs → p (get_or xs k d) ≡ true → ⊥
none_at p xs none k d below holds = true≢false (sym (list_any_at p xs k d below holds) ∙ none)

one_name : (name : List ℕ) → is_user_name name ≡ true → All (λ other. IsTrue (is_user_name other)) (name ∷ [])
one_name name good = All-cons (λ other. IsTrue (is_user_name other)) name [] good (All-nil (λ other. IsTrue (is_user_name other)))

pub user_added : (names : List (List ℕ)) (name : List ℕ) → IsConfiguration names 1 → is_user_name name ≡ true → list_any (λ other. bytes_eq other name) names ≡ false → length names < USERS → IsConfiguration (names ++ name ∷ []) 1
user_added names name valid good new room = record {
  few_users = omega (arith, length_push names name);
  good_names = All-append (λ other. IsTrue (is_user_name other)) names (name ∷ []) valid.good_names (one_name name good);
  different_names = all_pairs_push (λ one other. one ≢ other) names name valid.different_names (λ k d below same. none_at _ names new k d below ((bytes_eq-Decides (get_or names k d) name).1 same));
  some_worker = valid.some_worker;
  few_workers = valid.few_workers;
}

pub with_workers : (names : List (List ℕ)) (workers : ℕ) → IsConfiguration names 1 → 1 ≤ workers → workers ≤ WORKERS → IsConfiguration names workers
with_workers names workers valid some few = record {
  few_users = valid.few_users;
  good_names = valid.good_names;
  different_names = valid.different_names;
  some_worker = some;
  few_workers = few;
}
