-- What is told of a damaged file.
use Rattle.std.proofs.Common.{[], ◌++◌, ◌+◌, ◌∙◌, ◌∷◌, ◌≡◌, List, None, Option, Some, ap, arith, drop, length, length-append, map, refl, subst, suc, sym, take, ℕ}
use Rattle.std.proofs.Math.Seq.{drop-append_seam}
use Rattle.std.proofs.lemmas.List.{length-map}
use Rattle.std.proofs.lemmas.Option.{slice_get-map}
use Rattle.std.specs.Prelude.{option_map, slice_get}
use Rattle.definitions.specs.Schema.{Schema}
use Rattle.definitions.specs.Settings.{Settings}
use Rattle.index_file.specs.declared.index_file.IndexFile.{IndexFile}
use Rattle.inspect.proofs.Listed.{record_at}
use Rattle.inspect.specs.Contents.{AreRecords}
use Rattle.inspect.specs.Documents.{IsNewIn, IsTold}
use Rattle.index_file.specs.Lists.{LeavesList}
use Rattle.inspect.specs.Reasons.{HasNoMaking, IsDamageOf, IsReason, IsUnfit, IsUnfitAt}
use Rattle.inspect.specs.Records.{HasBody, gate_and_body, gates}
use Rattle.inspect.specs.declared.contents.Opened.TheVariants.{Whole}
use Rattle.inspect.specs.declared.damage.Reason.{Reason}
use Rattle.inspect.specs.declared.damage.Reason.TheVariants.{AliveSets, CutOff, Document, KeptSegments, NewSegment, NoList, NoMaking}
use Rattle.inspect.specs.declared.document_damage.DamagedDocument.{DamagedDocument}
use Rattle.inspect.specs.declared.records.Record.{Record}
use Rattle.layouts.proofs.FilesOfRecords.{flat}
use Rattle.layouts.specs.RecordBodies.{first_in}
use Rattle.layouts.specs.RecordFiles.{IsDamaged, records}
use Rattle.segment_definitions.specs.ListBodies.{Member}
use Rattle.segment_definitions.specs.IndexFiles.{TakesSegments}

-- ---- a record that may not stand there

-- where the file is damaged the gate is open, and its rest follows it
pub rest_behind : (bytes : List ℕ) (gate : ℕ) (d : IsDamaged TakesSegments bytes gate) → drop gate bytes ≡ 165 ∷ d.rest
rest_behind bytes gate d =
    ap (drop gate) d.bytes_are ∙ ap (λ (n : ℕ). drop n (records d.bodies ++ 165 ∷ d.rest)) d.stands ∙ drop-append_seam (records d.bodies) (165 ∷ d.rest)

pub gate_within : (bytes : List ℕ) (gate : ℕ) (d : IsDamaged TakesSegments bytes gate) → gate + 1 + length d.rest ≡ length bytes
gate_within bytes gate d = omega (arith, ap length d.bytes_are, d.stands, length-append (records d.bodies) (165 ∷ d.rest))

-- the first record's body says nothing
pub no_making : (bytes : List ℕ) (gate : ℕ) (d : IsDamaged TakesSegments bytes gate) (body : List ℕ) → gate ≡ 0 → HasBody d.rest body → HasNoMaking gate d.rest
no_making bytes gate d body first has = (first, (body, has, said (first_in body) refl))
  where
    none_before : (bodies : List (List ℕ)) → 0 ≡ length (records bodies) → bodies ≡ []
    none_before [] e = refl
    none_before (b ∷ bodies) e = absurd (omega (arith, length-append b (records bodies)))

    before : d.bodies ≡ []
    before = none_before d.bodies (sym first ∙ d.stands)

    said : (o : Option (Schema × Settings)) → first_in body ≡ o → first_in body ≡ None
    said None e = e
    said (Some (schema, settings)) e =
        absurd (d.broken (record { body = body; gate = has.gate; rest = has.more; short = has.short; bytes_are = has.rest_is; taken = subst (λ (bs : List (List ℕ)). TakesSegments bs body) (sym before) (schema, settings, [], e, tt) }))

-- a body that makes no list
pub unfit_reason : (schema : Schema) (settings : Settings) (bytes : List ℕ) (gate end num_before : ℕ) (before : List Member) (d : IsDamaged TakesSegments bytes gate) (body : List ℕ) (reason : Reason)
    → LeavesList schema settings (take gate bytes ++ 0 ∷ []) end before → num_before ≡ length before → HasBody d.rest body → IsUnfit schema num_before body reason → IsReason bytes gate d.rest reason
unfit_reason schema settings bytes gate end num_before before d body reason left counted has unfit =
    go reason (record { schema = schema; settings = settings; before = before; body = body; end = end; left = left; has = has; unfit = subst (λ n. IsUnfit schema n body reason) counted unfit })
  where
    go : (reason : Reason) → IsUnfitAt bytes gate d.rest reason → IsReason bytes gate d.rest reason
    go NoList at = (d, at)
    go KeptSegments at = (d, at)
    go (NewSegment index) at = (d, at)
    go AliveSets at = (d, at)
    go CutOff at = absurd at.unfit
    go NoMaking at = absurd at.unfit
    go (Document segment doc unread) at = absurd at.unfit

pub told_damage : (bytes : List ℕ) (number gate : ℕ) (reason : Reason) (d : IsDamaged TakesSegments bytes gate) → number ≡ length d.bodies → IsReason bytes gate d.rest reason → IsDamageOf bytes (record { number = number; gate = gate; reason = reason })
told_damage bytes number gate reason d counted why = record {
  rest = d.rest;
  gate = record { before = d.bodies; bytes_are = d.bytes_are; short = d.short; counted = counted; stands = d.stands };
  why = why;
}

-- as many records are listed as there are
pub long_gates : (at : ℕ) (bodies : List (List ℕ)) → length (gates at bodies) ≡ length bodies
long_gates at [] = refl
long_gates at (body ∷ bodies) = ap suc (long_gates (at + 9 + length body) bodies)

pub long_records : (rs : List Record) (bodies : List (List ℕ)) → map gate_and_body rs ≡ gates 0 bodies → length rs ≡ length bodies
long_records rs bodies e = sym (length-map rs gate_and_body) ∙ ap length e ∙ long_gates 0 bodies

-- ---- a document

pub told_document : (bytes : List ℕ) (file : IndexFile) (rs : List Record) (found : DamagedDocument) (number gate : ℕ) (listed : Record) → AreRecords bytes rs (Whole file) → IsTold file.schema file.members.items found
    → slice_get rs number ≡ Some listed → gate ≡ listed.gate → IsNewIn listed.body.now found.segment
    → IsDamageOf bytes (record { number = number; gate = gate; reason = Document found.number found.doc found.unread })
told_document bytes file rs found number gate listed (leaves, are) told stands offset brings =
    let f = flat leaves.ends.file in
    let at : slice_get (gates 0 (leaves.first ∷ leaves.bodies)) number ≡ Some (gate, listed.body.now) =
    ap (λ (l : List (ℕ × List ℕ)). slice_get l number) (sym are) ∙ slice_get-map gate_and_body rs number ∙ ap (option_map gate_and_body) stands ∙ ap (λ (n : ℕ). Some (n, listed.body.now)) (sym offset) in
    let is = record_at (leaves.first ∷ leaves.bodies) f.gate f.rest bytes number gate listed.body.now f.whole f.short at in
    record {
      rest = is.rest;
      gate = is.gate;
      why = record { file = file; opens = leaves; segment = found.segment; told = told; body = listed.body.now; has = is.has; brings = brings };
    }
