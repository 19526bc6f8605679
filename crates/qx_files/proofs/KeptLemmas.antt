-- What is seen of the files of a user, as one of them comes, changes or goes.
use Rattle.std.proofs.Common.{◌≡◌, ℕ, zero, suc, List, [], ◌∷◌, length, map, replicate, set, slice_set, refl, sym, ap, ◌∙◌, Option, Some, None}
use Rattle.std.specs.Prelude.{IsSomeAnd, option_map}
use Rattle.std.proofs.lemmas.List.{map-set}
use Rattle.qx_machine.specs.Files.{put}
use Rattle.qx_isolation.specs.Rows.{row_at, with_row}
use Rattle.qx_files.specs.Blocks.{Held, LacksBlock, after_write, blocks_after, nothing}
use Rattle.qx_files.specs.Files.{FileLacksBlock, blocks_pasted, pasted, with_nothing, without}
use Rattle.qx_files.specs.inner.Kept.{files_of, kept_of}

module _ {A B : Type 0} (g : A → B) where
  pub row-map : (rows : List (Option A)) (n : ℕ) → row_at (map (option_map g) rows) n ≡ option_map g (row_at rows n)
  row-map [] n = refl
  row-map (x ∷ rows) zero = refl
  row-map (x ∷ rows) (suc n) = row-map rows n

  both : (row : Option A) (change : A → A) (now : B → B) → ((x : A) → g (change x) ≡ now (g x)) → option_map g (option_map change row) ≡ option_map now (option_map g row)
  both None change now same = refl
  both (Some x) change now same = ap (λ y. Some y) (same x)

  pub with-map : (rows : List (Option A)) (n : ℕ) (change : A → A) (now : B → B) → ((x : A) → g (change x) ≡ now (g x)) → map (option_map g) (with_row rows n change) ≡ with_row (map (option_map g) rows) n now
  with-map rows n change now same =
      map-set (option_map g) rows n (option_map change (row_at rows n))
      ∙ ap (λ row. set (map (option_map g) rows) n row) (both (row_at rows n) change now same ∙ ap (option_map now) (sym (row-map rows n)))

  pub none-map : (n : ℕ) → map (option_map g) (replicate n None) ≡ replicate n None
  none-map zero = refl
  none-map (suc n) = ap (λ rows. None ∷ rows) (none-map n)

pub kept-put : (contents : List (Option Held)) (n : ℕ) → kept_of (slice_set contents n (Some nothing)) ≡ with_nothing n (kept_of contents)
kept-put contents n = λ i. record {
  files = map-set (option_map (λ (held : Held). held.bytes)) contents n (Some nothing) i;
  blocks = map-set (option_map (λ (held : Held). held.blocks)) contents n (Some nothing) i;
}

pub kept-freed : (contents : List (Option Held)) (n : ℕ) → kept_of (slice_set contents n None) ≡ without n (kept_of contents)
kept-freed contents n = λ i. record {
  files = map-set (option_map (λ (held : Held). held.bytes)) contents n None i;
  blocks = map-set (option_map (λ (held : Held). held.blocks)) contents n None i;
}

pub kept-written : (contents : List (Option Held)) (n offset : ℕ) (new : List ℕ) → kept_of (with_row contents n (λ held. after_write held offset new)) ≡ record { files = pasted (files_of contents) n offset new; blocks = blocks_pasted (kept_of contents).blocks n offset (length new) }
kept-written contents n offset new = λ i. record {
  files = with-map (λ (held : Held). held.bytes) contents n (λ held. after_write held offset new) (λ old. put old offset new) (λ held. refl) i;
  blocks = with-map (λ (held : Held). held.blocks) contents n (λ held. after_write held offset new) (λ old. blocks_after old offset (length new)) (λ held. refl) i;
}

pub files-put : (contents : List (Option Held)) (n : ℕ) → files_of (slice_set contents n (Some nothing)) ≡ slice_set (files_of contents) n (Some [])
files-put contents n = map-set (option_map (λ (held : Held). held.bytes)) contents n (Some nothing)

pub files-freed : (contents : List (Option Held)) (n : ℕ) → files_of (slice_set contents n None) ≡ slice_set (files_of contents) n None
files-freed contents n = map-set (option_map (λ (held : Held). held.bytes)) contents n None

pub files-written : (contents : List (Option Held)) (n offset : ℕ) (new : List ℕ) → files_of (with_row contents n (λ held. after_write held offset new)) ≡ pasted (files_of contents) n offset new
files-written contents n offset new = with-map (λ (held : Held). held.bytes) contents n (λ held. after_write held offset new) (λ old. put old offset new) (λ held. refl)

pub file-row : (contents : List (Option Held)) (n : ℕ) → row_at (files_of contents) n ≡ option_map (λ (held : Held). held.bytes) (row_at contents n)
file-row contents n = row-map (λ (held : Held). held.bytes) contents n

pub blocks-row : (contents : List (Option Held)) (n : ℕ) → row_at (kept_of contents).blocks n ≡ option_map (λ (held : Held). held.blocks) (row_at contents n)
blocks-row contents n = row-map (λ (held : Held). held.blocks) contents n

-- a file lacks a block by what it holds
pub file_lacks : (contents : List (Option Held)) (inode offset count : ℕ) → IsSomeAnd (row_at contents inode) (λ held. LacksBlock held offset count) → FileLacksBlock (kept_of contents) inode offset count
file_lacks contents inode offset count lacks = rw (file-row contents inode, blocks-row contents inode) (by_row (row_at contents inode) lacks)
  where
    by_row : (row : Option Held) → IsSomeAnd row (λ held. LacksBlock held offset count) → IsSomeAnd (option_map (λ (held : Held). held.bytes) row) (λ bytes. IsSomeAnd (option_map (λ (held : Held). held.blocks) row) (λ blocks. LacksBlock (record { bytes = bytes; blocks = blocks }) offset count))
    by_row None is = is
    by_row (Some held) is = is
