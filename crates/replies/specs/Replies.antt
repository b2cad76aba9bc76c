-- What the program makes of any bytes that it reads: the listing or the file of the thinned mesh, or a refusal.
use Rattle.std.specs.Prelude.{ℕ, zero, suc, List, ◌++◌, Float, Ok, Err}
use Rattle.units.specs.declared.Unit.{Unit}
use Rattle.units.specs.Units.{unit_number}
use Rattle.meaning.specs.Input.{Input}
use Rattle.meaning.specs.declared.Answer.{Answer}
use Rattle.meaning.specs.declared.Options.{Options}
use Rattle.walk.specs.declared.Closings.{Closings}
use Rattle.meaning.specs.Outcome.{Outcome, outcome}
use Rattle.walk.specs.Closings.{none_closed}
use Rattle.scanfile.specs.declared.Head.{Head}
use Rattle.scanfile.specs.Faults.{fault_number}
use Rattle.scanfile.specs.Scans.{Scan, scan_of}
use Rattle.scanfile.specs.Contents.{points_of, face_numbers_of, margin_of}
use Rattle.scanwriter.specs.Written.{scan_bytes}
use Rattle.text.specs.Words.{ascii}
use Rattle.listing.specs.Texts.{refusal_text, closed_text, mesh_text}
use Rattle.wording.specs.Meanings.{words_line}
use Rattle.replies.specs.declared.Wanted.{Wanted}
use Rattle.replies.specs.declared.Wanted.TheVariants.{Listing, File}

-- ---- the reply

-- what the program answers with: the thinned mesh, as the bytes that were asked for; or a refusal's number and place, with what is printed of it; and of
-- either the pairs closed by reason
pub data Told : Type 0 where
  mesh : List ℕ → Closings → Told
  refusal : ℕ → ℕ → List ℕ → Closings → Told

-- a refusal's line
abbrev pub refused : (number place : ℕ) → Closings → Told
refused number place closed = refusal number place (refusal_text number place) closed

-- a mesh as it was asked for: document 01's listing, or a scan file
abbrev pub mesh_bytes : Wanted → (unit : Unit) (folds : ℕ) → List Float → List ℕ → List ℕ
mesh_bytes Listing unit folds points faces = mesh_text (unit_number unit) folds points faces
mesh_bytes File unit folds points faces = scan_bytes (unit_number unit) points faces

-- a number's reply: 0 has the mesh, and any other is a refusal
abbrev pub told_by : (number place : ℕ) → Closings → List ℕ → Told
told_by zero place closed bytes = mesh bytes closed
told_by (suc n) place closed bytes = refused (suc n) place closed

-- the reply of an answer, with the points and faces of its mesh
abbrev pub answer_told : Wanted → Unit → Answer → List Float → List ℕ → Told
answer_told wanted unit r points faces = told_by r.number r.place r.closed (mesh_bytes wanted unit r.folds points faces)

-- the reply of an outcome
abbrev pub outcome_told : Wanted → Unit → Outcome → Told
outcome_told wanted unit o = answer_told wanted unit o.answer o.points o.faces

-- the options that a file's head has
abbrev pub head_options : Head → Options
head_options head = record { unit = unit_number head.unit; ratio = head.ratio; preserve = head.preserve; limit = head.limit }

-- what the library is handed: the mesh, the margin, the options, and memory for 128 points and 256 faces
abbrev pub call_of : Head → List Float → (faces margin : List ℕ) → Input
call_of head points faces margin =
    record {
      points = points;
      faces = faces;
      margin = margin;
      rooms = record { points = 384; faces = 768; u32s = 10240; f32s = 3584; f64s = 3584 };
      options = head_options head;
    }

-- the reply to a file that is refused, and to one that is good
unfoldable pub reply_by : Wanted → List ℕ → Scan → Told
reply_by wanted bytes (Err bad) = refused (fault_number bad.fault) bad.place none_closed
reply_by wanted bytes (Ok head) =
    outcome_told wanted head.unit
    (outcome
    (call_of head (points_of bytes head.points) (face_numbers_of bytes head.points head.faces) (margin_of bytes head.points head.faces head.margin)))

-- the reply to any bytes
unfoldable pub reply_of : Wanted → List ℕ → Told
reply_of wanted bytes = reply_by wanted bytes (scan_of bytes)

-- ---- as bytes

-- the bytes of a reply: those of the mesh, or what is printed of the refusal
abbrev pub told_bytes : Told → List ℕ
told_bytes (mesh bytes closed) = bytes
told_bytes (refusal number place line closed) = line

-- what document 01's program prints, for any bytes that it reads
abbrev pub listing_of : List ℕ → List ℕ
listing_of bytes = told_bytes (reply_of Listing bytes)

-- a reply that says why: one line more, with the pairs closed (document 02, wish 4)
abbrev pub closed_line : Closings → List ℕ
closed_line closed = closed_text closed.unlinked closed.squashed closed.turned

abbrev pub with_why : Told → Told
with_why (mesh bytes closed) = mesh (bytes ++ closed_line closed) closed
with_why (refusal number place line closed) = refusal number place (line ++ closed_line closed) closed

-- what the program prints where it is asked why, for any bytes that it reads
abbrev pub why_of : List ℕ → List ℕ
why_of bytes = told_bytes (with_why (reply_of Listing bytes))

-- a refusal's line on standard error
abbrev pub complaint : (number place : ℕ) → List ℕ
complaint number place = ascii "thin: " ++ words_line number place
