-- Documents 01, "Guide lines", and 02, f): the bytes allowed, and a text.
use Rattle.std.specs.Prelude.{ℕ, List, Bool, not, ◌&&◌, length, leb, eqb}
use Rattle.text.specs.Parts.{all, comma}
use Rattle.text.specs.Utf8.{well_formed, ascii}

-- a text is its bytes
abbrev pub Text : Type 0
Text = List ℕ

-- a byte of a line: "no byte below 32, no 127"
abbrev pub allowed : ℕ → Bool
allowed b = leb 32 b && not (eqb b 127)

-- a byte of a text: "and no comma"
abbrev pub text_byte : ℕ → Bool
text_byte b = allowed b && not (eqb b comma)

-- "A text has 1 to 64 bytes"
abbrev pub text_size : Text → Bool
text_size t = leb 1 (length t) && leb (length t) 64

-- "Texts may now be well-formed UTF-8 (RFC 3629) of up to 64 bytes, with no byte below 32, no 127 and no comma"
unfoldable pub is_text : Text → Bool
is_text t = text_size t && all text_byte t && well_formed t

-- "a guide or listing line ill-formed anywhere is 3"
abbrev pub allowed_line : List ℕ → Bool
allowed_line s = all allowed s && well_formed s

-- "the old characters": no "byte of 128 or more"
abbrev pub is_plain : Text → Bool
is_plain t = all ascii t

-- "Own phrases keep the old characters"
abbrev pub is_own_text : Text → Bool
is_own_text t = is_text t && is_plain t
