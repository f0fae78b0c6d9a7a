-- The lines of an image's parts.
use Rattle.std.specs.Prelude.{ℕ, ◌+◌, ◌*◌, List, [], ◌∷◌, ◌++◌, codes, length, slice_get, Option}
use Rattle.std.specs.Prelude.{Some, None, if◌then◌else◌}
use Rattle.std.specs.Fmt.{decimal}
use Rattle.fx_image.specs.declared.forms.Comp.{Comp}
use Rattle.fx_image.specs.declared.forms.Section.{Section}
use Rattle.fx_image.specs.declared.forms.Obj.{Obj}
use Rattle.fx_image.specs.declared.forms.EntryRec.{EntryRec}
use Rattle.fx_image.specs.declared.forms.Stub.{Stub}
use Rattle.fx_image.specs.declared.forms.Start.{Start}
use Rattle.fx_image.specs.declared.forms.Image.{Image}
use Rattle.fx_image.specs.Layout.{code_start}
use Rattle.fx_image.specs.Keys.{is_keyed}
use Rattle.fx_cmd_base.specs.Hex.{hex}
use Rattle.fx_cmd_show.specs.Words.{mechanism_word, hex_8, name_of, member_words, read_words}
use Rattle.fx_cmd_show.specs.Words.{written_words}

-- ---- the header

unfoldable pub version_line : ℕ → List ℕ
version_line version = codes "FlexOS image, version " ++ (decimal version ++ 10 ∷ [])

unfoldable pub mechanism_line : Image → List ℕ
mechanism_line i =
    codes "mechanism " ++ (mechanism_word i.mechanism ++ (codes ", " ++ (decimal i.threads
    ++ (codes " threads, " ++ (decimal i.stack_pages ++ (codes " stack pages" ++ 10 ∷ []))))))

unfoldable pub roles_line : Image → List ℕ
roles_line i =
    codes "scheduler " ++ (name_of (slice_get i.compartments i.scheduler)
    ++ (codes ", home " ++ (name_of (slice_get i.compartments i.home) ++ 10 ∷ [])))

unfoldable pub code_line : Image → List ℕ
code_line i =
    codes "code " ++ (hex code_start ++ (codes " " ++ (decimal (length i.code)
    ++ (codes " bytes, abort stub " ++ (hex (code_start + i.abort) ++ 10 ∷ [])))))

-- the address of the literals' first byte
abbrev pub literals_start : ℕ
literals_start = 0x60_0000

unfoldable pub literals_line : Image → List ℕ
literals_line i =
    codes "literals " ++ (hex literals_start ++ (codes " " ++ (decimal (length i.literals)
    ++ (codes " bytes" ++ 10 ∷ []))))

unfoldable pub header : Image → List ℕ
header i =
    version_line i.version ++ (mechanism_line i ++ (roles_line i ++ (code_line i
    ++ literals_line i)))

-- ---- compartments, sections, objects

-- the PKRU value of a compartment, with the keys of the pages that it lets read and write
unfoldable pub rights_words : ℕ → List ℕ
rights_words pkru =
    codes ", pkru " ++ (hex_8 pkru ++ (codes ", reads keys" ++ (read_words pkru
    ++ (codes ", writes keys" ++ written_words pkru))))

-- the same where the mechanism has keys
abbrev pub keyed_rights : (mechanism pkru : ℕ) → List ℕ
keyed_rights mechanism pkru = if is_keyed mechanism then rights_words pkru else []

unfoldable pub compartment_line : (mechanism c : ℕ) → Comp → List ℕ
compartment_line mechanism c comp =
    codes "compartment " ++ (decimal c ++ (codes " " ++ (comp.name
    ++ (codes ", code " ++ (hex (code_start + comp.start) ++ (codes " " ++ (decimal comp.len
    ++ (codes " bytes"
    ++ (keyed_rights mechanism comp.pkru ++ 10 ∷ [])))))))))

unfoldable pub section_line : List Comp → ℕ → Section → List ℕ
section_line comps n s =
    codes "section " ++ (decimal n ++ (codes " " ++ (hex (4096 * s.page)
    ++ (codes " " ++ (decimal s.pages ++ (codes " pages, key " ++ (decimal s.key
    ++ (codes ", readers" ++ (member_words comps s.readers ++ (codes ", writers"
    ++ (member_words comps s.writers ++ 10 ∷ [])))))))))))

unfoldable pub object_line : Obj → List ℕ
object_line o =
    codes "object " ++ (hex o.address ++ (codes " " ++ (decimal o.size
    ++ (codes " bytes in section " ++ (decimal o.section ++ (codes ", " ++ (o.name
    ++ (codes ", initial " ++ (decimal (length o.initial) ++ (codes " bytes" ++ 10 ∷ []))))))))))

-- ---- entries, stubs, devices, starts

-- where the range of a compartment starts, if there is one of that number
abbrev pub range_start : Option Comp → ℕ
range_start None = 0
range_start (Some c) = c.start

-- Entry i is called at 16 * i from the start of its compartment's range.
abbrev pub entry_address : (start number : ℕ) → ℕ
entry_address start number = code_start + start + 16 * number

unfoldable pub entry_line : List Comp → EntryRec → List ℕ
entry_line comps e =
    codes "entry "
    ++ (hex (entry_address (range_start (slice_get comps e.compartment)) e.number)
    ++ (codes " " ++ (decimal e.number ++ (codes " of "
    ++ (name_of (slice_get comps e.compartment) ++ (codes ", " ++ (e.name
    ++ (codes ", callers" ++ (member_words comps e.callers ++ 10 ∷ [])))))))))

unfoldable pub stub_line : List Comp → Stub → List ℕ
stub_line comps s =
    codes "stub " ++ (hex (code_start + s.offset) ++ (codes " from "
    ++ (name_of (slice_get comps s.from) ++ (codes " to entry " ++ (decimal s.entry
    ++ (codes " of " ++ (name_of (slice_get comps s.to)
    ++ (codes ", wrpkru " ++ (hex (code_start + s.first) ++ (codes " and "
    ++ (hex (code_start + s.second) ++ 10 ∷ [])))))))))))

unfoldable pub device_line : List Comp → ℕ → ℕ → List ℕ
device_line comps device owner =
    codes "device " ++ (decimal device ++ (codes " of " ++ (name_of (slice_get comps owner)
    ++ 10 ∷ [])))

unfoldable pub start_line : ℕ → Start → List ℕ
start_line vcpu s =
    codes "start of vcpu " ++ (decimal vcpu ++ (codes ", rip " ++ (hex s.rip
    ++ (codes ", rsp " ++ (hex s.rsp ++ 10 ∷ [])))))
