use Rattle.std.proofs.Common.{rules, tests, ◌≡◌, ◌∙◌, ◌+◌, ◌<◌, ◌^◌, ◌++◌, ℕ, Bool, not, ◌==◌, List, Option, Some, None, drop, take, length, filter, slice_get, sym, ap, subst, arith}
use Rattle.std.proofs.lemmas.Iterator.{YieldsList-from_slice}
use Rattle.std.proofs.lemmas.Iterator.Consumers.{YieldsList-from_filter, nth_from_yields_List}
use Rattle.std.proofs.lemmas.List.Sums.{count_by-le-length, length-filter}
use Rattle.std.proofs.lemmas.Option.{slice_get_within}
use Rattle.std.specs.Prelude.{IfSome, OnSome}
use Rattle.qx_machine.specs.Inodes.{is_clients}
use Rattle.qx_isolation.specs.Rows.{row_at}
use Rattle.qx_attr.specs.inner.Blocks.{NumberedRows}
use Rattle.qx_attr.proofs.MadeLemmas.{once_at}
use Rattle.qx_attr.proofs.blocks.Blocks.of_client.Goals as goal

-- what holds of what stands at a place
if_there : (result : Option ℕ) (xs : List ℕ) (place : ℕ) (P : ℕ → Type 0) → result ≡ slice_get xs place → ((n : ℕ) → slice_get xs place ≡ Some n → P n) → IfSome result P
if_there None xs place P is h = tt
if_there (Some n) xs place P is h = h n (sym is)

on_there : (result : Option ℕ) (xs : List ℕ) (place : ℕ) (P : Type 0) → result ≡ slice_get xs place → (place < length xs → P) → OnSome result P
on_there None xs place P is h = tt
on_there (Some n) xs place P is h = h (slice_get_within xs place n (sym is))

-- the others are those before and behind
abbrev IsOnce : (ℕ → Bool) → ℕ → List ℕ → Type 0
IsOnce test place made = (n : ℕ) → slice_get (filter test made) place ≡ Some n → filter (λ other. not (other == n)) (filter test made) ≡ take place (filter test made) ++ drop (place + 1) (filter test made)

pub returns : goal.returns
returns c =
    let test : ℕ → Bool = λ number. is_clients c.args.client (row_at c.args.self.now.rows number) in
    let made : List ℕ = c.self.inside.made.items in
    let same : made ≡ c.args.self.now.made = ap (λ (blocks : NumberedRows). blocks.made) c.self.view_is in
    let found = nth_from_yields_List c.nth.result _ c.args.place c.nth.ensures.ran (YieldsList-from_filter _ test (YieldsList-from_slice made cc) c.filter.ensures.closure (λ x b q k. search (rules, tests))) in
    let got : c.copied.result ≡ slice_get (filter test c.args.self.now.made) c.args.place = c.copied.ensures ∙ (found ∙ ap (λ made. slice_get (filter test made) c.args.place) same) in
    let once = subst (IsOnce test c.args.place) same (λ n is. once_at c.self.inside.keys.items made n c.args.place test c.self.invariant.once is) in
    let few : length c.args.self.now.made < 2 ^ 64 = subst (λ made. length made < 2 ^ 64) same (search (rules, c.iter.ensures.bound)) in
    record {
      number = got;
      once = if_there c.copied.result (filter test c.args.self.now.made) c.args.place _ got once;
      next = on_there c.copied.result (filter test c.args.self.now.made) c.args.place (c.args.place + 1 < 2 ^ 64) got (λ within. omega (arith, within, few, length-filter test c.args.self.now.made, count_by-le-length test c.args.self.now.made));
    }
