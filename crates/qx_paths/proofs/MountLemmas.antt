-- Prefixes, and the mount of the longest one.
use Rattle.std.proofs.Common.{◌≡◌, ℕ, ◌+◌, ◌<◌, ◌≤◌, Bool, true, false, List, [], ◌∷◌, ◌++◌, length, take, drop, get_or, Option, None, Some, refl, ap, sym, subst, ◌∙◌, arith}
use Rattle.std.specs.Prelude.{IfOk, IfSome, Result, Ok, if◌then◌else◌, nat_lt, option_map, slice_get}
use Rattle.std.specs.Result.{IsOk}
use Rattle.std.specs.Str.{bytes_eq}
use Rattle.std.specs.Cmp.Lexicographic.{same_text}
use Rattle.std.proofs.lemmas.Bool.{ltb-false, ltb-true}
use Rattle.std.proofs.lemmas.Cmp.{nat_list_eq_equiv}
use Rattle.std.proofs.Math.Seq.{take-append_seam}
use Rattle.std.proofs.lemmas.List.{append-nil, drop-drop, get_or-drop, length-drop}
use Rattle.std.proofs.Math.Nat.{add-zero}
use Rattle.std.proofs.lemmas.Option.{slice_get-get_or}
use Rattle.qx_base.specs.declared.errno.Errno.{Errno}
use Rattle.qx_types.specs.declared.names.Manager.{Manager}
use Rattle.qx_paths.specs.Mounts.{fit, located, longer, longest, resolve, top_fault}
use Rattle.qx_paths.specs.Prefixes.{MountPoint, behind, is_all, is_at}
use Rattle.qx_paths.specs.declared.resolved.Resolved.{Resolved}

same_name : (a b : List ℕ) → bytes_eq a b ≡ true → a ≡ b
same_name a b e = same_text a b (sym e)

equal_name : (a : List ℕ) → bytes_eq a a ≡ true
equal_name a = nat_list_eq_equiv.refl a

-- ---- prefixes

the_same : {X : Type 0} (x y : X) → Some x ≡ Some y → x ≡ y
the_same {X = X} x y e = subst (λ (o : Option X). IfSome o (λ z. x ≡ z)) e refl

kept_when : {X : Type 0} (b : Bool) (left : Option X) (x : X) → (if b then left else None) ≡ Some x → (b ≡ true) × (left ≡ Some x)
kept_when true left x e = (refl, e)
kept_when false left x e = absurd cc

pub behind_together : (path prefix rest : List (List ℕ)) → behind path prefix ≡ Some rest → prefix ++ rest ≡ path
behind_together path [] rest e = sym (the_same path rest e)
behind_together [] (name ∷ names) rest e = absurd cc
behind_together (first ∷ path) (name ∷ names) rest e =
    let both = kept_when (bytes_eq first name) (behind path names) rest e in
    rw (same_name first name both.0) (ap (λ (xs : List (List ℕ)). name ∷ xs) (behind_together path names rest both.1))

pub behind_append : (prefix rest : List (List ℕ)) → behind (prefix ++ rest) prefix ≡ Some rest
behind_append [] rest = refl
behind_append (name ∷ names) rest = rw (equal_name name) (behind_append names rest)

all_left : (left : Option (List (List ℕ))) → is_all left ≡ true → left ≡ Some []
all_left None e = absurd cc
all_left (Some []) e = refl
all_left (Some (name ∷ rest)) e = absurd cc

pub at_prefix : (path : List (List ℕ)) (mount : MountPoint) → is_at path mount ≡ true → mount.prefix ≡ path
at_prefix path mount e = sym (append-nil mount.prefix) ∙ behind_together path mount.prefix [] (all_left (behind path mount.prefix) e)

pub prefix_at : (path : List (List ℕ)) (mount : MountPoint) → mount.prefix ≡ path → is_at path mount ≡ true
prefix_at path mount e =
    let all : behind mount.prefix mount.prefix ≡ Some [] = subst (λ (xs : List (List ℕ)). behind xs mount.prefix ≡ Some []) (append-nil mount.prefix) (behind_append mount.prefix []) in
    subst (λ (xs : List (List ℕ)). is_all (behind xs mount.prefix) ≡ true) e (rw all refl)

pub prefix_taken : (path prefix rest : List (List ℕ)) → behind path prefix ≡ Some rest → take (length prefix) path ≡ prefix
prefix_taken path prefix rest e = subst (λ (xs : List (List ℕ)). take (length prefix) xs ≡ prefix) (behind_together path prefix rest e) (take-append_seam prefix rest)

-- ---- the best of several mounts

next_dropped : (all : List MountPoint) (n : ℕ) (mount : MountPoint) (more : List MountPoint) → drop n all ≡ mount ∷ more → drop (n + 1) all ≡ more
next_dropped all n mount more e = sym (drop-drop 1 n all) ∙ ap (drop 1) e

got : (all : List MountPoint) (n : ℕ) (mount : MountPoint) (more : List MountPoint) → drop n all ≡ mount ∷ more → slice_get all n ≡ Some mount
got all n mount more e =
    let within : n < length all = omega (arith, length-drop n all, ap length e) in
    let is : get_or all n mount ≡ mount = subst (λ (k : ℕ). get_or all k mount ≡ mount) (add-zero n) (sym (get_or-drop n all 0 mount) ∙ ap (λ (ms : List MountPoint). get_or ms 0 mount) e) in
    slice_get-get_or all n mount within ∙ ap (λ (m : MountPoint). Some m) is

keeps_longer : (P : Resolved → Type 0) (best next : Option Resolved) → IfSome best P → IfSome next P → IfSome (longer best next) P
keeps_longer P None next one two = two
keeps_longer P (Some best) None one two = one
keeps_longer P (Some best) (Some next) one two = elim (nat_lt best.depth next.depth) as (λ b. IfSome (if b then Some next else Some best) P) [ true ↦ two | false ↦ one ]

-- what each mount that fits has, the best of them has
pub keeps_longest : (P : Resolved → Type 0) (all : List MountPoint) (path : List (List ℕ)) → ((n : ℕ) (mount : MountPoint) (more : List MountPoint) → drop n all ≡ mount ∷ more → IfSome (fit path n mount) P) → (mounts : List MountPoint) (best : Option Resolved) (n : ℕ) → drop n all ≡ mounts → IfSome best P → IfSome (longest path best n mounts) P
keeps_longest P all path each [] best n e good = good
keeps_longest P all path each (mount ∷ mounts) best n e good =
    keeps_longest P all path each mounts (longer best (fit path n mount)) (n + 1) (next_dropped all n mount mounts e) (keeps_longer P best (fit path n mount) good (each n mount mounts e))

-- there is one whose prefix has so many components
abbrev pub IsDeep : ℕ → Option Resolved → Type 0
IsDeep d None = ⊥
IsDeep d (Some place) = d ≤ place.depth

deep_chosen : (d : ℕ) (best next : Resolved) (b : Bool) → (b ≡ true → best.depth < next.depth) → d ≤ best.depth → IsDeep d (if b then Some next else Some best)
deep_chosen d best next true lt deep = omega (arith, lt refl, deep)
deep_chosen d best next false lt deep = deep

deep_chosen_two : (d : ℕ) (best next : Resolved) (b : Bool) → (b ≡ false → next.depth ≤ best.depth) → d ≤ next.depth → IsDeep d (if b then Some next else Some best)
deep_chosen_two d best next true le deep = deep
deep_chosen_two d best next false le deep = omega (arith, le refl, deep)

deep_longer_one : (d : ℕ) (best next : Option Resolved) → IsDeep d best → IsDeep d (longer best next)
deep_longer_one d None next deep = absurd deep
deep_longer_one d (Some best) None deep = deep
deep_longer_one d (Some best) (Some next) deep = deep_chosen d best next (nat_lt best.depth next.depth) (ltb-true best.depth next.depth) deep

deep_longer_two : (d : ℕ) (best next : Option Resolved) → IsDeep d next → IsDeep d (longer best next)
deep_longer_two d None next deep = deep
deep_longer_two d (Some best) None deep = absurd deep
deep_longer_two d (Some best) (Some next) deep = deep_chosen_two d best next (nat_lt best.depth next.depth) (ltb-false best.depth next.depth) deep

deep_longest : (d : ℕ) (path : List (List ℕ)) (mounts : List MountPoint) (best : Option Resolved) (n : ℕ) → IsDeep d best → IsDeep d (longest path best n mounts)
deep_longest d path [] best n deep = deep
deep_longest d path (mount ∷ mounts) best n deep = deep_longest d path mounts (longer best (fit path n mount)) (n + 1) (deep_longer_one d best (fit path n mount) deep)

deep_fit : (path rest : List (List ℕ)) (n : ℕ) (mount : MountPoint) → behind path mount.prefix ≡ Some rest → IsDeep (length mount.prefix) (fit path n mount)
deep_fit path rest n mount e = rw e (omega arith)

pub deep_among : (path rest : List (List ℕ)) (before after : List MountPoint) (mount : MountPoint) (best : Option Resolved) (n : ℕ) → behind path mount.prefix ≡ Some rest → IsDeep (length mount.prefix) (longest path best n (before ++ mount ∷ after))
deep_among path rest [] after mount best n e = deep_longest (length mount.prefix) path after (longer best (fit path n mount)) (n + 1) (deep_longer_two (length mount.prefix) best (fit path n mount) (deep_fit path rest n mount e))
deep_among path rest (other ∷ before) after mount best n e = deep_among path rest before after mount (longer best (fit path n other)) (n + 1) e

-- ---- where a path leads

-- the mount has that number and prefix, and prefix and rest together are the path
abbrev pub IsPlace : List MountPoint → List (List ℕ) → Resolved → Type 0
IsPlace mounts path place = (slice_get mounts place.number ≡ Some (record { prefix = take place.depth path; manager = place.manager; root = place.root })) × (take place.depth path ++ place.rest ≡ path)

fit_place : (all : List MountPoint) (path : List (List ℕ)) (n : ℕ) (mount : MountPoint) → slice_get all n ≡ Some mount → (left : Option (List (List ℕ))) → behind path mount.prefix ≡ left → IfSome (option_map (λ rest. record { number = n; depth = length mount.prefix; manager = mount.manager; root = mount.root; rest = rest }) left) (IsPlace all path)
fit_place all path n mount is None e = tt
fit_place all path n mount is (Some rest) e = rw (prefix_taken path mount.prefix rest e) (is, behind_together path mount.prefix rest e)

led : (fault : Option Errno) (found : Option Resolved) (place : Resolved) → located fault found ≡ Ok place → found ≡ Some place
led (Some errno) found place e = absurd cc
led None None place e = absurd cc
led None (Some other) place e = subst (λ (r : Result Resolved Errno). IfOk r (λ z. Some other ≡ Some z)) e refl

pub leads_to_place : (names : List (List ℕ)) (own : List ℕ) (mounts : List MountPoint) (path : List (List ℕ)) (place : Resolved) → resolve names own mounts path ≡ Ok place → IsPlace mounts path place
leads_to_place names own mounts path place e =
    subst (λ (found : Option Resolved). IfSome found (IsPlace mounts path)) (led (top_fault names own path) (longest path None 0 mounts) place e)
    (keeps_longest (IsPlace mounts path) mounts path (λ n mount more is. fit_place mounts path n mount (got mounts n mount more is) (behind path mount.prefix) refl) mounts None 0 refl tt)

pub leads_deepest : (names : List (List ℕ)) (own : List ℕ) (before after : List MountPoint) (mount : MountPoint) (path rest : List (List ℕ)) (place : Resolved) → resolve names own (before ++ mount ∷ after) path ≡ Ok place → behind path mount.prefix ≡ Some rest → length mount.prefix ≤ place.depth
leads_deepest names own before after mount path rest place e fits =
    subst (λ (found : Option Resolved). IsDeep (length mount.prefix) found) (led (top_fault names own path) (longest path None 0 (before ++ mount ∷ after)) place e) (deep_among path rest before after mount None 0 fits)

located_deep : (d : ℕ) (found : Option Resolved) → IsDeep d found → IsOk (located None found)
located_deep d None deep = absurd deep
located_deep d (Some place) deep = refl

pub top_leads : (names : List (List ℕ)) (own : List ℕ) (manager : Manager) (root : ℕ) (mounts : List MountPoint) (path : List (List ℕ)) → IsOk (resolve names own (record { prefix = own ∷ []; manager = manager; root = root } ∷ mounts) (own ∷ path))
top_leads names own manager root mounts path =
    let top : MountPoint = record { prefix = own ∷ []; manager = manager; root = root } in
    let none : top_fault names own (own ∷ path) ≡ None = rw (equal_name own) refl in
    let found : Option Resolved = longest (own ∷ path) None 0 (top ∷ mounts) in
    subst (λ (fault : Option Errno). IsOk (located fault found)) (sym none) (located_deep 1 found (deep_among (own ∷ path) path [] mounts top None 0 (rw (equal_name own) refl)))
