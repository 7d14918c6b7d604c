-- Each segment of the last list of a file is new in one of its records.
use Rattle.std.proofs.Common.{[], ◌+◌, ◌∙◌, ◌∷◌, ◌≡◌, ◌⊎◌, List, ap, arith, inl, inr, length, map, refl, subst, suc, sym, zero, ℕ}
use Rattle.std.proofs.lemmas.Option.{slice_get-map}
use Rattle.std.specs.List.{AllZip, last_or}
use Rattle.std.specs.Prelude.{Contains, Some, option_map, slice_get}
use Rattle.definitions.proofs.Lists.{some_same as some_is}
use Rattle.definitions.specs.Schema.{Schema}
use Rattle.index_file.proofs.PlacesFollow.{made_body}
use Rattle.index_file.specs.Lists.{member_of}
use Rattle.index_file.specs.declared.index_file.IndexFile.{IndexFile}
use Rattle.index_file.specs.declared.member.Member as code
use Rattle.inspect.specs.Contents.{AreRecords}
use Rattle.inspect.specs.Documents.{IsNewIn}
use Rattle.inspect.specs.Records.{gate_and_body, gates}
use Rattle.inspect.specs.declared.contents.Opened.TheVariants.{Whole}
use Rattle.inspect.specs.declared.records.Record.{Record}
use Rattle.segment.specs.Opened.{bytes_of}
use Rattle.segment_definitions.specs.ListBodies.{IsOfPart, Member, Part, fresh, kept}
use Rattle.segment_definitions.specs.IndexFiles.{AreMade}
use Rattle.segment_definitions.specs.Segments.{IsSegment}

-- a list has a member with these bytes
pub record HasBytes (list : List Member) (bytes : List ℕ) : Type 0 where
  pub index : ℕ
  pub member : Member
  pub stands : slice_get list index ≡ Some member
  pub bytes_are : member.0 ≡ bytes

-- a body of these lists a segment as a new one
pub record HasNew (bodies : List (List ℕ)) (bytes : List ℕ) : Type 0 where
  pub index : ℕ
  pub body : List ℕ
  pub stands : slice_get bodies index ≡ Some body
  pub is_new : IsNewIn body bytes

contains_tail : (part : Part) (parts : List Part) (x : Part) → Contains parts x → Contains (part ∷ parts) x
contains_tail part parts x (k, within, is) = (suc k, omega (arith, within), is)

-- a member has the bytes of one of the list before, or of a new part
of_part : (before : List Member) (part : Part) (m : Member) → IsOfPart before part m → HasBytes before m.0 ⊎ (part ≡ fresh m.0)
of_part before (kept kept_index) m (flags, is) = inl (record { index = kept_index; member = (m.0, flags); stands = is; bytes_are = refl })
of_part before (fresh segment) m is = inr (ap fresh is)

part_of_member : (before : List Member) (parts : List Part) (after : List Member) (n : ℕ) (m : Member) → AllZip (IsOfPart before) parts after → slice_get after n ≡ Some m → HasBytes before m.0 ⊎ Contains parts (fresh m.0)
part_of_member before [] [] zero m are is = cc
part_of_member before [] [] (suc n) m are is = cc
part_of_member before [] (a ∷ after) n m are is = absurd are
part_of_member before (part ∷ parts) [] n m are is = absurd are
part_of_member before (part ∷ parts) (a ∷ after) zero m are is =
    let same : a ≡ m = some_is a m is in
    elim (of_part before part m (subst (IsOfPart before part) same are.0)) [
      | inl has ↦ inl has
      | inr new ↦ inr (0, omega arith, new)
    ]
part_of_member before (part ∷ parts) (a ∷ after) (suc n) m are is =
    elim (part_of_member before parts after n m are.1 is) [
      | inl has ↦ inl has
      | inr new ↦ inr (contains_tail part parts (fresh m.0) new)
    ]

-- over all bodies, from a list on
made_new : (schema : Schema) (before : List Member) (bodies : List (List ℕ)) (lists : List (List Member)) (last : List Member) (bytes : List ℕ) → AreMade (IsSegment schema) before bodies lists → last_or (Some before) lists ≡ Some last
    → HasBytes last bytes → HasBytes before bytes ⊎ HasNew bodies bytes
made_new schema before [] [] last bytes are is has = (let same : before ≡ last = some_is before last is in inl (subst (λ l. HasBytes l bytes) (sym same) has))
made_new schema before [] (list ∷ lists) last bytes are is has = absurd are
made_new schema before (body ∷ bodies) [] last bytes are is has = absurd are
made_new schema before (body ∷ bodies) (list ∷ lists) last bytes are is has = later (made_new schema list bodies lists last bytes are.1 is has)
  where
    here : (found : HasBytes list bytes) → HasBytes before found.member.0 ⊎ Contains are.0.parts (fresh found.member.0) → HasBytes before bytes ⊎ HasNew (body ∷ bodies) bytes
    here found (inl old) = inl (subst (HasBytes before) found.bytes_are old)
    here found (inr new) = inr (record {
      index = 0;
      body = body;
      stands = refl;
      is_new = (are.0.parts, map (λ (m : Member). m.1) list, made_body schema before list body are.0, subst (λ (bs : List ℕ). Contains are.0.parts (fresh bs)) found.bytes_are new);
    })

    later : HasBytes list bytes ⊎ HasNew bodies bytes → HasBytes before bytes ⊎ HasNew (body ∷ bodies) bytes
    later (inl found) = here found (part_of_member before are.0.parts list found.index found.member are.0.parts_are found.stands)
    later (inr new) = inr (record { index = suc new.index; body = new.body; stands = new.stands; is_new = new.is_new })

-- a body stands where its gate is listed
listed_at : (rs : List Record) (bodies : List (List ℕ)) (at n : ℕ) (body : List ℕ) → map gate_and_body rs ≡ gates at bodies → slice_get bodies n ≡ Some body → (r : Record) × (slice_get rs n ≡ Some r) × (r.body.now ≡ body)
listed_at [] [] at zero body e is = cc
listed_at [] [] at (suc n) body e is = cc
listed_at [] (b ∷ bodies) at n body e is = cc
listed_at (r ∷ rs) [] at n body e is = cc
listed_at (r ∷ rs) (b ∷ bodies) at zero body e is =
    let same : (r.gate, r.body.now) ≡ (at, b) = cc in
    (r, refl, ap (λ (p : ℕ × List ℕ). p.1) same ∙ some_is b body is)
listed_at (r ∷ rs) (b ∷ bodies) at (suc n) body e is =
    let tail : map gate_and_body rs ≡ gates (at + 9 + length b) bodies = cc in
    listed_at rs bodies (at + 9 + length b) n body tail is

-- so is a segment of a file that opens, in one of the records that are listed
pub new_somewhere : (bytes : List ℕ) (file : IndexFile) (rs : List Record) (number : ℕ) (m : code.Member) → AreRecords bytes rs (Whole file) → slice_get file.members.items number ≡ Some m
    → ((n : ℕ) (r : Record) → slice_get rs n ≡ Some r → ¬ IsNewIn r.body.now (bytes_of m.segment)) → ⊥
new_somewhere bytes file rs number m (leaves, are) stands none = go (made_new file.schema [] leaves.bodies leaves.lists (map member_of file.members.items) (bytes_of m.segment) leaves.follow leaves.last has)
  where
    has : HasBytes (map member_of file.members.items) (bytes_of m.segment)
    has = record { index = number; member = member_of m; stands = slice_get-map member_of file.members.items number ∙ ap (option_map member_of) stands; bytes_are = refl }

    not_empty : (n : ℕ) (old : Member) → slice_get [] n ≡ Some old → ⊥
    not_empty zero old e = cc
    not_empty (suc n) old e = cc

    go : HasBytes [] (bytes_of m.segment) ⊎ HasNew leaves.bodies (bytes_of m.segment) → ⊥
    go (inl old) = not_empty old.index old.member old.stands
    go (inr new) =
        let (r, at, same) = listed_at rs (leaves.first ∷ leaves.bodies) 0 (suc new.index) new.body are new.stands in
        none (suc new.index) r at (subst (λ (b : List ℕ). IsNewIn b (bytes_of m.segment)) (sym same) new.is_new)
