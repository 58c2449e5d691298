-- The tables of a font file that are read (OpenType, chapter 4, font tables).
use Rattle.std.specs.Prelude.{ℕ, List, codes}
use Rattle.buffer_common.specs.Tag.{tag_of_text}
use Rattle.font_bytes.specs.declared.table_names.FontTable.{FontTable}
use Rattle.font_bytes.specs.declared.table_names.FontTable.TheVariants.{Head, Maxp, Hhea, Hmtx, Vhea, Vmtx, Os2, Vorg, Cmap, Loca, Glyf, Cff, Cff2, Post, Gdef, Gsub, Gpos, Kern}

-- the name of a table
abbrev pub name_of_table : FontTable → List ℕ
name_of_table Head = codes "head"
name_of_table Maxp = codes "maxp"
name_of_table Hhea = codes "hhea"
name_of_table Hmtx = codes "hmtx"
name_of_table Vhea = codes "vhea"
name_of_table Vmtx = codes "vmtx"
name_of_table Os2 = codes "OS/2"
name_of_table Vorg = codes "VORG"
name_of_table Cmap = codes "cmap"
name_of_table Loca = codes "loca"
name_of_table Glyf = codes "glyf"
name_of_table Cff = codes "CFF"
name_of_table Cff2 = codes "CFF2"
name_of_table Post = codes "post"
name_of_table Gdef = codes "GDEF"
name_of_table Gsub = codes "GSUB"
name_of_table Gpos = codes "GPOS"
name_of_table Kern = codes "kern"

-- the tag of a table: its name, filled with spaces
abbrev pub tag_of_table : FontTable → ℕ
tag_of_table table = (tag_of_text (name_of_table table)).0
