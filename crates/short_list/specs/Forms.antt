-- Where a short list keeps its elements.
use Rattle.std.specs.Prelude.{◌≡◌, List, [], ◌∷◌, length}
use Rattle.short_list.specs.declared.forms.Form.{Form}
use Rattle.short_list.specs.declared.forms.Form.TheVariants.{One, Many}

module _ {T : Type 0} where
  abbrev pub elements : Form T → List T
  elements (One item) = item ∷ []
  elements (Many items) = items.items

  -- a single element stands in place
  abbrev pub IsShort : Form T → Type 0
  IsShort (One item) = Unit {0}
  IsShort (Many items) = length items.items ≡ 1 → ⊥
