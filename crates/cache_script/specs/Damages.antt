-- The line of a damaged place.
use Rattle.std.specs.Prelude.{ℕ, List, ◌++◌, codes, decimal}
use Rattle.cache_model.specs.declared.faults.BadKind.{BadKind}
use Rattle.cache_model.specs.declared.faults.BadKind.TheVariants.{Tag, KeyLength, ValueLength, Until, Moment, Sequence, Version, Cut, Order, Gate, Node, Place}
use Rattle.cache_model.specs.declared.faults.Damage.{Damage}
use Rattle.cache_model.specs.Replies.{line_of}
use Rattle.cache_script.specs.FileNames.{text_of}

-- the word for a kind of damage
abbrev pub kind_text : BadKind → List ℕ
kind_text (Tag byte) = codes "tag"
kind_text (KeyLength n) = codes "key"
kind_text (ValueLength n) = codes "value"
kind_text (Until n) = codes "until"
kind_text (Moment n) = codes "moment"
kind_text (Sequence n) = codes "sequence"
kind_text (Version byte) = codes "version"
kind_text Cut = codes "cut"
kind_text Order = codes "order"
kind_text (Gate byte) = codes "gate"
kind_text Node = codes "node"
kind_text Place = codes "place"

-- the line of a damage: `damaged`, the file, the offset in bytes and the kind
abbrev pub damage_line : Damage → List ℕ
damage_line damage = line_of (codes "damaged " ++ text_of damage.file ++ codes " " ++ decimal damage.at ++ codes " " ++ kind_text damage.kind)
