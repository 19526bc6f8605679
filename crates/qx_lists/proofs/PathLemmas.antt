-- How a path changes as two places of its ring are joined.
use Rattle.std.proofs.Common.{◌≡◌, ◌≢◌, ℕ, ◌≤◌, List, [], ◌∷◌, ◌++◌, length, Option, None, Some, sym, ◌∙◌, ap, arith}
use Rattle.std.proofs.lemmas.List.{append-nil}
use Rattle.qx_lists.specs.Paths.{Ways, IsPath, same_path}

abbrev pub AllPlaces : (Option ℕ → Type 0) → List ℕ → Type 0
AllPlaces P [] = Unit {0}
AllPlaces P (x ∷ xs) = P (Some x) × AllPlaces P xs

-- none of the nodes stands at the place
abbrev pub Avoids : Option ℕ → List ℕ → Type 0
Avoids place = AllPlaces (λ s. s ≢ place)

-- no node stands twice
abbrev pub IsApart : List ℕ → Type 0
IsApart [] = Unit {0}
IsApart (x ∷ xs) = Avoids (Some x) xs × IsApart xs

-- the last place before the end of a path, and the first one after its start
abbrev pub last_place : Option ℕ → List ℕ → Option ℕ
last_place p [] = p
last_place p (x ∷ xs) = last_place (Some x) xs

abbrev pub first_place : List ℕ → Option ℕ → Option ℕ
first_place [] q = q
first_place (x ∷ xs) q = Some x

-- the second links are the first with b right after a
pub record Joins (w v : Ways) (a b : Option ℕ) : Type 0 where
  pub next_is : v.next a ≡ Some b
  pub next_kept : (s : Option ℕ) → s ≢ a → v.next s ≡ w.next s
  pub previous_is : v.previous b ≡ Some a
  pub previous_kept : (s : Option ℕ) → s ≢ b → v.previous s ≡ w.previous s

pub avoids_parts : (p : Option ℕ) (xs ys : List ℕ) → Avoids p (xs ++ ys) → Avoids p xs × Avoids p ys
avoids_parts p [] ys all = (tt, all)
avoids_parts p (x ∷ xs) ys all = let rest = avoids_parts p xs ys all.1 in ((all.0, rest.0), rest.1)

pub avoids_none : (xs : List ℕ) → Avoids None xs
avoids_none [] = tt
avoids_none (x ∷ xs) = (λ (same : Some x ≡ None). cc, avoids_none xs)

pub apart_front : (xs ys : List ℕ) → IsApart (xs ++ ys) → IsApart xs
apart_front [] ys apart = tt
apart_front (x ∷ xs) ys apart = ((avoids_parts (Some x) xs ys apart.0).0, apart_front xs ys apart.1)

pub apart_back : (xs ys : List ℕ) → IsApart (xs ++ ys) → IsApart ys
apart_back [] ys apart = apart
apart_back (x ∷ xs) ys apart = apart_back xs ys apart.1

-- a node stands in no list before it
pub avoids_before : (xs ys : List ℕ) (y : ℕ) → IsApart (xs ++ y ∷ ys) → Avoids (Some y) xs
avoids_before [] ys y apart = tt
avoids_before (x ∷ xs) ys y apart = (λ same. (avoids_parts (Some x) xs (y ∷ ys) apart.0).1.0 (sym same), avoids_before xs ys y apart.1)

-- the last place of the front stands in no list behind it
pub avoids_last : (p : Option ℕ) (xs ys : List ℕ) → Avoids p ys → IsApart (xs ++ ys) → Avoids (last_place p xs) ys
avoids_last p [] ys avoids apart = avoids
avoids_last p (x ∷ xs) ys avoids apart = avoids_last (Some x) xs ys (avoids_parts (Some x) xs ys apart.0).1 apart.1

avoids_without : (p : Option ℕ) (xs ys : List ℕ) (n : ℕ) → Avoids p (xs ++ n ∷ ys) → Avoids p (xs ++ ys)
avoids_without p [] ys n all = all.1
avoids_without p (x ∷ xs) ys n all = (all.0, avoids_without p xs ys n all.1)

pub apart_without : (xs ys : List ℕ) (n : ℕ) → IsApart (xs ++ n ∷ ys) → IsApart (xs ++ ys)
apart_without [] ys n apart = apart.1
apart_without (x ∷ xs) ys n apart = (avoids_without (Some x) xs ys n apart.0, apart_without xs ys n apart.1)

-- a place that no node of the list stands at is not its last
last_differs : (p : Option ℕ) (x : ℕ) (xs : List ℕ) → Avoids p (x ∷ xs) → last_place (Some x) xs ≢ p
last_differs p x [] avoids = avoids.0
last_differs p x (y ∷ ys) avoids = last_differs p y ys avoids.1

pub path_append : (w : Ways) (p : Option ℕ) (xs : List ℕ) (y : ℕ) (ys : List ℕ) (q : Option ℕ) → IsPath w p xs (Some y) → IsPath w (Some y) ys q → IsPath w p (xs ++ y ∷ ys) q
path_append w p [] y ys q one two = (one, two)
path_append w p (x ∷ xs) y ys q one two = (one.0, path_append w (Some x) xs y ys q one.1 two)

pub path_split : (w : Ways) (p : Option ℕ) (xs : List ℕ) (y : ℕ) (ys : List ℕ) (q : Option ℕ) → IsPath w p (xs ++ y ∷ ys) q → IsPath w p xs (Some y) × IsPath w (Some y) ys q
path_split w p [] y ys q path = path
path_split w p (x ∷ xs) y ys q path = let parts = path_split w (Some x) xs y ys q path.1 in ((path.0, parts.0), parts.1)

pub path_front : (w : Ways) (p : Option ℕ) (xs ys : List ℕ) (q : Option ℕ) → IsPath w p (xs ++ ys) q → IsPath w p xs (first_place ys q)
path_front w p xs [] q path = rw append-nil at path
path_front w p xs (y ∷ ys) q path = (path_split w p xs y ys q path).0

pub next-path : (w : Ways) (p : Option ℕ) (xs : List ℕ) (q : Option ℕ) → IsPath w p xs q → w.next p ≡ Some (first_place xs q)
next-path w p [] q path = path.0
next-path w p (x ∷ xs) q path = path.0.0

pub previous-path : (w : Ways) (p : Option ℕ) (xs : List ℕ) (q : Option ℕ) → IsPath w p xs q → w.previous q ≡ Some (last_place p xs)
previous-path w p [] q path = path.1
previous-path w p (x ∷ xs) q path = previous-path w (Some x) xs q path.1

pub next-last : (w : Ways) (p : Option ℕ) (xs : List ℕ) (q : Option ℕ) → IsPath w p xs q → w.next (last_place p xs) ≡ Some q
next-last w p [] q path = path.0
next-last w p (x ∷ xs) q path = next-last w (Some x) xs q path.1

pub previous-first : (w : Ways) (p : Option ℕ) (xs : List ℕ) (q : Option ℕ) → IsPath w p xs q → w.previous (first_place xs q) ≡ Some p
previous-first w p [] q path = path.1
previous-first w p (x ∷ xs) q path = path.0.1

-- the nodes of a path to the list itself differ, since the links lead on from each in one way
avoids_behind : (w : Ways) (x : ℕ) (xs : List ℕ) (q : Option ℕ) (ys : List ℕ) → IsPath w (Some x) xs None → IsPath w q ys None → length ys ≤ length xs → Avoids (Some x) ys
avoids_behind w x xs q [] whole part shorter = tt
avoids_behind w x xs q (y ∷ ys) whole part shorter = (
  λ (same : Some y ≡ Some x).
      let here : IsPath w (Some x) ys None = rw same at part.1 in
      let equal : length xs ≡ length ys = ap length (same_path w (Some x) xs ys whole here) in
      omega arith,
  avoids_behind w x xs (Some y) ys whole part.1 (omega arith),
)

pub path_apart : (w : Ways) (p : Option ℕ) (xs : List ℕ) → IsPath w p xs None → IsApart xs
path_apart w p [] path = tt
path_apart w p (x ∷ xs) path = (avoids_behind w x xs (Some x) xs path.1 path.1 (omega arith), path_apart w (Some x) xs path.1)

-- a path stays where the links of its places stay
pub path_along : (w v : Ways) (P Q : Option ℕ → Type 0) → ((s : Option ℕ) → P s → v.next s ≡ w.next s) → ((s : Option ℕ) → Q s → v.previous s ≡ w.previous s) → (p : Option ℕ) (xs : List ℕ) (q : Option ℕ) → P p → AllPlaces P xs → AllPlaces Q xs → Q q → IsPath w p xs q → IsPath v p xs q
path_along w v P Q nexts previouses p [] q starts all ends_all ends path = (nexts p starts ∙ path.0, previouses q ends ∙ path.1)
path_along w v P Q nexts previouses p (x ∷ xs) q starts all ends_all ends path = (
  (nexts p starts ∙ path.0.0, previouses (Some x) ends_all.0 ∙ path.0.1),
  path_along w v P Q nexts previouses (Some x) xs q all.0 all.1 ends_all.1 ends path.1,
)

-- a path whose last place is joined to b leads to b
pub path_turned : (w v : Ways) (p : Option ℕ) (xs : List ℕ) (q b : Option ℕ) → Joins w v (last_place p xs) b → Avoids p xs → IsApart xs → Avoids b xs → IsPath w p xs q → IsPath v p xs b
path_turned w v p [] q b joins starts apart ends path = (joins.next_is, joins.previous_is)
path_turned w v p (x ∷ xs) q b joins starts apart ends path = (
  (joins.next_kept p (λ same. last_differs p x xs starts (sym same)) ∙ path.0.0, joins.previous_kept (Some x) ends.0 ∙ path.0.1),
  path_turned w v (Some x) xs q b joins apart.0 apart.1 ends.1 path.1,
)

module _ (w v : Ways) (a b : Option ℕ) (joins : Joins w v a b) where
  -- a path that neither starts at a nor ends at b on its way
  path_kept : (p : Option ℕ) (xs : List ℕ) (q : Option ℕ) → p ≢ a → Avoids a xs → Avoids b xs → q ≢ b → IsPath w p xs q → IsPath v p xs q
  path_kept = path_along w v (λ s. s ≢ a) (λ s. s ≢ b) joins.next_kept joins.previous_kept

-- a node leaves the ring where the places around it are joined
pub path_without : (w v : Ways) (xs ys : List ℕ) (n : ℕ) → Joins w v (last_place None xs) (first_place ys None) → IsPath w None (xs ++ n ∷ ys) None → IsPath v None (xs ++ ys) None
path_without w v xs [] n joins path =
    let apart = path_apart w None _ path in
    let front = path_front w None xs (n ∷ []) None path in
    rw append-nil (path_turned w v None xs (Some n) None joins (avoids_none xs) (apart_front xs _ apart) (avoids_none xs) front)
path_without w v xs (y ∷ ys) n joins path =
    let apart = apart_without xs (y ∷ ys) n (path_apart w None _ path) in
    let parts = path_split w None xs n (y ∷ ys) None path in
    let behind = avoids_last None xs (y ∷ ys) (avoids_none (y ∷ ys)) apart in
    let before = avoids_before xs ys y apart in
    let later : Avoids (Some y) ys = (apart_back xs (y ∷ ys) apart).0 in
    path_append v None xs y ys None
    (path_turned w v None xs (Some n) (Some y) joins (avoids_none xs) (apart_front xs _ apart) before parts.0)
    (path_kept w v _ _ joins (Some y) ys None behind.0 behind.1 later (λ (same : None ≡ Some y). cc) parts.1.1)

-- a node joins the ring between the last place of the front and the first one behind it
path_with_end : (w u v : Ways) (xs : List ℕ) (n : ℕ) (q : Option ℕ) → Joins w u (last_place None xs) (Some n) → Joins u v (Some n) q → q ≢ Some n → Avoids (Some n) xs → Avoids q xs → IsApart xs → IsPath w None xs q → IsPath v None xs (Some n)
path_with_end w u v xs n q one two differs new behind apart path =
    path_kept u v _ _ two None xs (Some n) (λ (same : None ≡ Some n). cc) new behind (λ same. differs (sym same)) (path_turned w u None xs q (Some n) one (avoids_none xs) apart new path)

pub path_with : (w u v : Ways) (xs ys : List ℕ) (n : ℕ) → Joins w u (last_place None xs) (Some n) → Joins u v (Some n) (first_place ys None) → Avoids (Some n) (xs ++ ys) → IsPath w None (xs ++ ys) None → IsPath v None (xs ++ n ∷ ys) None
path_with w u v xs [] n one two new path =
    let front = path_front w None xs [] None path in
    let fresh = (avoids_parts (Some n) xs [] new).0 in
    let whole = apart_front xs [] (path_apart w None _ path) in
    path_append v None xs n [] None (path_with_end w u v xs n None one two (λ (same : None ≡ Some n). cc) fresh (avoids_none xs) whole front) (two.next_is, two.previous_is)
path_with w u v xs (y ∷ ys) n one two new path =
    let apart = path_apart w None _ path in
    let parts = path_split w None xs y ys None path in
    let fresh = avoids_parts (Some n) xs (y ∷ ys) new in
    let front = path_with_end w u v xs n (Some y) one two fresh.1.0 fresh.0 (avoids_before xs ys y apart) (apart_front xs _ apart) parts.0 in
    let last_apart = avoids_last None xs (y ∷ ys) (avoids_none (y ∷ ys)) apart in
    let later : Avoids (Some y) ys = (apart_back xs (y ∷ ys) apart).0 in
    let once = path_kept w u _ _ one (Some y) ys None last_apart.0 last_apart.1 fresh.1.1 (λ (same : None ≡ Some n). cc) parts.1 in
    let twice = path_kept u v _ _ two (Some y) ys None fresh.1.0 fresh.1.1 later (λ (same : None ≡ Some y). cc) once in
    path_append v None xs n (y ∷ ys) None front ((two.next_is, two.previous_is), twice)
