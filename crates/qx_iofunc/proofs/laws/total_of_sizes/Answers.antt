use Rattle.std.proofs.Common.{◌≡◌, ℕ, List, length, refl, ap, ◌∙◌, Option, Some, None, option_map, unwrap_or}
use Rattle.qx_files.proofs.SizeLemmas.{same_sums}
use Rattle.qx_iofunc.specs.Fits.{file_size}
use Rattle.qx_machine.specs.Files.{size_of}
use Rattle.qx_isolation.specs.Rows.{row_at}
use Rattle.qx_iofunc.proofs.laws.total_of_sizes.Goals as goal

by_bytes : (bytes : Option (List ℕ)) → size_of bytes ≡ unwrap_or (option_map (λ bytes. length bytes) bytes) 0
by_bytes None = refl
by_bytes (Some bytes) = refl

pub returns : goal.returns
returns c = record {
  total_of_sizes = λ inodes names files fits. same_sums size_of (λ row. unwrap_or (file_size row) 0) files inodes.attributes refl refl (λ n. by_bytes (row_at files n) ∙ ap (λ size. unwrap_or size 0) (fits.sized n));
}
