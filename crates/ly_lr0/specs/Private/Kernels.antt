-- Kernels that are looked up.
use Rattle.std.specs.Prelude.{◌≡◌, ℕ, ◌<◌, List, [], length, slice_index_or}
use Rattle.ly_lr0.specs.declared.item.Item.{Item}

-- the kernel of a number, none past the last
abbrev pub kernel_at : List (List Item) → ℕ → List Item
kernel_at kernels n = slice_index_or kernels n []

-- the kernels that were there keep their numbers
abbrev pub KeepsKernels : List (List Item) → List (List Item) → Type 0
KeepsKernels old new = (s : ℕ) → s < length old → (s < length new) × (kernel_at new s ≡ kernel_at old s)
