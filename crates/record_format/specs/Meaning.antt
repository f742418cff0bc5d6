-- What the items of the code stand for.
use Rattle.std.specs.Prelude.{ℕ, ◌+◌, ◌-◌, ◌<◌, ◌≤◌, List, take, drop}
use Rattle.cache_model.specs.Items.{put, removal, end, Front, whole, cut, bad, IsItem}
use Rattle.cache_model.specs.Items as model
use Rattle.record_format.specs.declared.items.Span.{Span}
use Rattle.record_format.specs.declared.items.Item.{Item}
use Rattle.record_format.specs.declared.items.Item.TheVariants as over
use Rattle.record_format.specs.declared.items.OwnItem.{OwnItem}
use Rattle.record_format.specs.declared.items.OwnItem.TheVariants.{Put, Removal, End}
use Rattle.record_format.specs.declared.items.Step.{Step}
use Rattle.record_format.specs.declared.items.Step.TheVariants.{Whole, Cut, Bad}

-- the item that an item with its own key and value stands for
abbrev pub own_item : OwnItem → model.Item
own_item (Put seq until key value) = put seq until key value
own_item (Removal seq key) = removal seq key
own_item (End moment) = end moment

-- a part of some bytes
abbrev pub part : List ℕ → Span → List ℕ
part bytes span = take span.length (drop span.at bytes)

-- the item that an item in these bytes stands for
abbrev pub item_in : List ℕ → Item → model.Item
item_in bytes (over.Put seq until key value) = put seq until (part bytes key) (part bytes value)
item_in bytes (over.Removal seq key) = removal seq (part bytes key)
item_in bytes (over.End moment) = end moment

-- what was found at an offset of these bytes
abbrev pub found_at : List ℕ → ℕ → Step → Front
found_at bytes at (Whole item next) = whole (item_in bytes item) (next - at)
found_at bytes at Cut = cut
found_at bytes at (Bad kind) = bad kind

-- a part lies within so many bytes
abbrev pub IsPart : ℕ → Span → Type 0
IsPart most span = span.at + span.length ≤ most

-- the parts of an item lie in front of this offset
abbrev pub AreParts : ℕ → Item → Type 0
AreParts most (over.Put seq until key value) = IsPart most key × IsPart most value
AreParts most (over.Removal seq key) = IsPart most key
AreParts most (over.End moment) = Unit {0}

-- an item that was found ends behind its offset and within the bytes, and its parts lie in front of its end
abbrev pub IsFoundWithin : ℕ → ℕ → Step → Type 0
IsFoundWithin most at (Whole item next) = (at < next) × (next ≤ most) × AreParts next item
IsFoundWithin most at Cut = Unit {0}
IsFoundWithin most at (Bad kind) = Unit {0}

-- an item that was found is within its limits
abbrev pub IsFoundItem : List ℕ → Step → Type 0
IsFoundItem bytes (Whole item next) = IsItem (item_in bytes item)
IsFoundItem bytes Cut = Unit {0}
IsFoundItem bytes (Bad kind) = Unit {0}
