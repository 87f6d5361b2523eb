-- What the code answers: where the curves of an entry stand. Assumes nothing.
use Rattle.std.specs.Prelude.{ℕ, ◌+◌, ◌*◌, ◌%◌, max, ◌≤◌, ◌<◌, cond, List, [], ◌∷◌, map, ◌≡◌, Result, Ok, Err, length, take, drop, get_or}
use Rattle.util.specs.View.{little, word_at, view}
use Rattle.util.specs.Reader.{Reader, Outcome, accepted, run, each}
use Rattle.util.specs.ReaderCode.{Reads}
use Rattle.util.specs.Sums.{total}
use Rattle.util.specs.declared.cur.Cur.{Cur}
use Rattle.util.specs.declared.refusal.Refusal.{Refusal}
use Rattle.util.specs.declared.refusal.Refusal.TheVariants.{TooShort}
use Rattle.util.specs.Bits.{bit}
use Rattle.animation.specs.declared.Triple.{Triple as CodeTriple}
use Rattle.animation.specs.declared.Triple.TheVariants.{Translation, Scale}
use Rattle.animation.specs.declared.Tables.{Tables}
use Rattle.animation.specs.declared.Referred.{Referred as CodeReferred}
use Rattle.animation.specs.declared.Greatest.{Greatest}
use Rattle.animation.specs.declared.Animation.{Animation as Known}
use Rattle.animation.specs.declared.AxisCurves.{AxisCurves}
use Rattle.animation.specs.declared.RotationCurve.{RotationCurve}
use Rattle.animation.specs.declared.Fields.{Fields}
use Rattle.animation.specs.declared.AxesRead.{AxesRead}
use Rattle.animation.specs.declared.TRSCurves.{TRSCurves}
use Rattle.animation.specs.declared.ObjectRead.{ObjectRead}
use Rattle.curve.specs.declared.SampleList.{SampleList}
use Rattle.curve.specs.declared.ScalarCurve.{ScalarCurve}
use Rattle.matrix.specs.declared.Mat3.{Mat3}
use Rattle.curve.specs.Curve.{Curve, none, constant, samples}
use Rattle.curve.specs.CurveCode.{list_means, curve_in, scalar_curve, Inside, InsideOf}
use Rattle.animation.specs.Animation.{PerAxis, Axes, Object, Triple, translation, scale, Value, numbers_of, value_from, start_of, end_of, rate_of, values_of, Referred, pivot_record, basis_record, referred, object, axes_samples, object_samples, Animation, animation}

abbrev pub triple_means : CodeTriple → Triple
triple_means Translation = translation
triple_means Scale = scale

-- how far a part reaches that ends at e, in n bytes, after parts that reach as far as m
abbrev pub ReachesTo : ℕ → ℕ → ℕ → Result ℕ Refusal → Type 0
ReachesTo e n m (Ok far) = (e ≤ n) × (far ≡ max m e)
ReachesTo e n m (Err r) = (n < e) × (r ≡ TooShort)

-- ---- scalar curves

abbrev pub fields_means : Fields → Outcome (ℕ × ℕ)
fields_means f = accepted f.reach (f.word, f.offset)

abbrev pub Forward : Fields → Type 0
Forward f = start_of f.word < end_of f.word

-- the list of a curve word, as the code has it
abbrev pub code_list : ℕ → ℕ → ℕ → SampleList
code_list w place size = record { start = start_of w; end = end_of w; place = place; length = values_of w; size = size; rate = rate_of w }

-- a curve of the triple, and where reading stands after it
abbrev pub scalar_means : (t : Triple) → List ℕ → ScalarCurve × Cur → Outcome (Curve (Value t) × ℕ)
scalar_means t s x = accepted x.1.reach (curve_in (value_from t) s x.0, x.1.pos)

-- the next field stands at `most` or before
abbrev pub ScalarInside : Triple → List ℕ → ℕ → ScalarCurve × Cur → Type 0
ScalarInside t s most x = InsideOf (numbers_of t) s x.0 × (x.1.pos ≤ most)

abbrev pub ScalarReads : (t : Triple) → Reader (Curve (Value t) × ℕ) → List ℕ → ℕ → ℕ → Result (ScalarCurve × Cur) Refusal → Type 0
ScalarReads t r s reach most x = Reads (scalar_means t s) (ScalarInside t s most) r s reach x

-- ---- three axes

-- their values
abbrev pub triple_curves : (t : Triple) → List ℕ → AxisCurves → PerAxis (Value t)
triple_curves t s a = record { x = curve_in (value_from t) s a.x; y = curve_in (value_from t) s a.y; z = curve_in (value_from t) s a.z }

pub record InsideTriple (t : Triple) (s : List ℕ) (a : AxisCurves) : Type 0 where
  pub x : InsideOf (numbers_of t) s a.x
  pub y : InsideOf (numbers_of t) s a.y
  pub z : InsideOf (numbers_of t) s a.z

-- and the first number of each value
abbrev pub axis_curves : List ℕ → AxisCurves → Axes
axis_curves s a = record { x = scalar_curve s a.x; y = scalar_curve s a.y; z = scalar_curve s a.z }

pub record InsideAxes (s : List ℕ) (a : AxisCurves) : Type 0 where
  pub x : Inside s a.x
  pub y : Inside s a.y
  pub z : Inside s a.z

abbrev pub axes_means : (t : Triple) → List ℕ → AxesRead → Outcome (PerAxis (Value t) × ℕ)
axes_means t s a = accepted a.at.reach (triple_curves t s a.curves, a.at.pos)

-- .. and their lists' values are counted
abbrev pub AxesInside : Triple → List ℕ → ℕ → AxesRead → Type 0
AxesInside t s most a = InsideTriple t s a.curves × (a.at.pos ≤ most) × (a.samples ≡ axes_samples (triple_curves t s a.curves))

abbrev pub AxesReads : (t : Triple) → Reader (PerAxis (Value t) × ℕ) → List ℕ → ℕ → ℕ → Result AxesRead Refusal → Type 0
AxesReads t r s reach most x = Reads (axes_means t s) (AxesInside t s most) r s reach x

abbrev pub no_curves : AxisCurves
no_curves = record { x = ScalarCurve.None; y = ScalarCurve.None; z = ScalarCurve.None }

-- ---- rotations

abbrev pub referred_means : CodeReferred → Referred
referred_means (CodeReferred.Pivot place) = pivot_record place
referred_means (CodeReferred.Basis place) = basis_record place

-- where the record ends that a reference leads to
abbrev pub reference_end : Tables → ℕ → ℕ
reference_end t x = (referred t.pivot t.basis x).place + (referred t.pivot t.basis x).size

-- a u16 with bit 15 turned
abbrev pub turned_over : ℕ → ℕ
turned_over x = (x + 32768) % 65536

-- the greatest f of some numbers; of none, 0
unfoldable pub greatest_of : (ℕ → ℕ) → List ℕ → ℕ
greatest_of f [] = 0
greatest_of f (x ∷ xs) = max (f x) (greatest_of f xs)

-- where the record ends that x leads to, if `mark` has bit 15 set
abbrev pub marked_end : Tables → ℕ → ℕ → ℕ
marked_end t mark x = cond (bit mark 15) (reference_end t x) 0

-- where the last of the records ends that some references lead to, by the greatest of them: of the pivot data, and of the basis data
abbrev pub last_end : Tables → Greatest → ℕ
last_end t g = max (marked_end t g.plain g.plain) (marked_end t g.turned (turned_over g.turned))

-- the matrix that a record holds, and the one that a reference leads to
abbrev pub matrix_in : List ℕ → Referred → Mat3
matrix_in s r = r.gives (take r.size (drop r.place s))

abbrev pub matrix_for : Tables → List ℕ → ℕ → Mat3
matrix_for t s x = matrix_in s (referred t.pivot t.basis x)

-- the references of a list
abbrev pub references : List ℕ → SampleList → List ℕ
references s l = view 2 little l.length (drop l.place s)

abbrev pub rotation_curve : Tables → List ℕ → RotationCurve → Curve Mat3
rotation_curve t s RotationCurve.None = none
rotation_curve t s (RotationCurve.Constant x) = constant (matrix_for t s x)
rotation_curve t s (RotationCurve.Samples l) = samples (list_means l) (map (matrix_for t s) (references s l))

-- a list of references that stands in the section with the records that they lead to
pub record InsideReferences (t : Tables) (s : List ℕ) (l : SampleList) : Type 0 where
  pub room : l.place + 2 * l.length ≤ length s
  pub ordered : l.start < l.end
  pub rated : l.rate ≤ 3
  pub records : (i : ℕ) → i < l.length → reference_end t (get_or (references s l) i 0) ≤ length s

abbrev pub InsideRotation : Tables → List ℕ → RotationCurve → Type 0
InsideRotation t s RotationCurve.None = Unit {0}
InsideRotation t s (RotationCurve.Constant x) = reference_end t x ≤ length s
InsideRotation t s (RotationCurve.Samples l) = InsideReferences t s l

abbrev pub rotation_means : Tables → List ℕ → RotationCurve × Cur → Outcome (Curve Mat3 × ℕ)
rotation_means t s x = accepted x.1.reach (rotation_curve t s x.0, x.1.pos)

abbrev pub RotationInside : Tables → List ℕ → ℕ → RotationCurve × Cur → Type 0
RotationInside t s most x = InsideRotation t s x.0 × (x.1.pos ≤ most)

abbrev pub RotationReads : Reader (Curve Mat3 × ℕ) → Tables → List ℕ → ℕ → ℕ → Result (RotationCurve × Cur) Refusal → Type 0
RotationReads r t s reach most x = Reads (rotation_means t s) (RotationInside t s most) r s reach x

-- ---- objects

abbrev pub object_curves : Tables → List ℕ → TRSCurves → Object
object_curves t s c = record { translation = triple_curves translation s c.trans; rotation = rotation_curve t s c.rotation; scale = triple_curves scale s c.scale }

pub record InsideObject (t : Tables) (s : List ℕ) (c : TRSCurves) : Type 0 where
  pub trans : InsideTriple translation s c.trans
  pub rotation : InsideRotation t s c.rotation
  pub scale : InsideTriple scale s c.scale

abbrev pub object_means : Tables → List ℕ → ObjectRead → Outcome Object
object_means t s x = accepted x.reach (object_curves t s x.curves)

-- an object's curves stand in the section, and are counted
pub record CountedObject (t : Tables) (s : List ℕ) (x : ObjectRead) : Type 0 where
  pub inside : InsideObject t s x.curves
  pub samples : x.samples ≡ object_samples (object_curves t s x.curves)

abbrev pub ObjectReads : Reader Object → Tables → List ℕ → ℕ → Result ObjectRead Refusal → Type 0
ObjectReads r t s reach x = Reads (object_means t s) (CountedObject t s) r s reach x

abbrev pub still_curves : TRSCurves
still_curves = record { trans = no_curves; rotation = RotationCurve.None; scale = no_curves }

-- the curves of a triple
abbrev pub curves_of : CodeTriple → TRSCurves → AxisCurves
curves_of Translation c = c.trans
curves_of Scale c = c.scale

-- ---- the entry

abbrev pub tables_at : List ℕ → Tables
tables_at s = record { pivot = word_at 4 s 12; basis = word_at 4 s 16 }

-- the objects whose offsets stand at 20
abbrev pub objects_at : List ℕ → ℕ → Reader (List Object)
objects_at s n = each (object (word_at 4 s 12) (word_at 4 s 16)) (view 2 little n (drop 20 s))

-- an accepted entry: what is held of it, and where the code says that it stands
pub record WholeAnimation (s : List ℕ) (a : Known) : Type 0 where
  pub held : Animation
  pub reads : run animation s 0 ≡ accepted a.reach held
  pub frames : held.frames ≡ a.frames
  pub count : length held.objects ≡ a.objects
  pub samples : total object_samples held.objects ≡ a.samples
  pub tables : a.tables ≡ tables_at s
  pub room : 20 + 2 * a.objects ≤ length s
  pub objects : (m : ℕ) × (run (objects_at s a.objects) s 0 ≡ accepted m held.objects)
  pub inside : a.reach ≤ length s
