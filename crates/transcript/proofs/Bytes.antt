-- The bytes of transcript lines, one behind the other.
use Prim.Native.Nat.{ℕ}
use mathlib.Core.Path.{◌≡◌, refl, sym, ap, ◌∙◌}
use mathlib.Core.List.{List, [], ◌∷◌, ◌++◌, append-nil, append_assoc}
use Rattle.transcript.specs.State.{TranscriptLine, line_bytes, transcript_bytes}

pub bytes-append : (t u : List TranscriptLine) → transcript_bytes (t ++ u) ≡ transcript_bytes t ++ transcript_bytes u
unfolding transcript_bytes
bytes-append [] u = refl
bytes-append (l ∷ t) u = ap (λ (b : List ℕ). line_bytes l ++ b) (bytes-append t u) ∙ sym (append_assoc (line_bytes l) (transcript_bytes t) (transcript_bytes u))

pub bytes_one : (l : TranscriptLine) → transcript_bytes (l ∷ []) ≡ line_bytes l
unfolding transcript_bytes
bytes_one l = append-nil (line_bytes l)
