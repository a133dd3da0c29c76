-- A reader of a profile: the values so far, and what becomes of the record that begins next.
use Rattle.std.proofs.Common.{◌≡◌, ◌≢◌, ◌∙◌, ap, sym, refl, ℕ, ◌+◌, ◌-◌, ◌≤◌, List, [], ◌∷◌, ◌++◌, length, take, drop, arith, append_assoc, append-nil, length-append, Option, Some, Err}
use Rattle.std.specs.List.{flat_map, AllByRecursion}
use Rattle.std.proofs.lemmas.Grind.{flat_map-append}
use Rattle.std.proofs.lemmas.List.{drop_all}
use Rattle.std.proofs.Math.Seq.{take-append_seam}
use Rattle.asterix_frame.specs.declared.block.Block.{Block}
use Rattle.asterix_frame.specs.declared.tables.Uap.{Uap}
use Rattle.asterix_frame.specs.declared.walk.ItemSpans.{ItemSpans}
use Rattle.asterix_frame.specs.Elements.{Element}
use Rattle.asterix_frame.specs.DataRecords.{DataRecord, record_octets}
use Rattle.asterix_frame.specs.Bodies.{HasDataRecord, elements_at}
use Rattle.asterix_frame.specs.Encoding.{record_of}
use Rattle.asterix_frame.proofs.DataRecordCodes.{record_code}
use Rattle.cat062_out.specs.declared.error.ProfileError.{ProfileError}
use Rattle.cat062_out.specs.declared.error.ProfileError.TheVariants as errors
use Rattle.cat062_out.specs.Answers.{AnswersWith, RefusesWith, IfRefused}
use Rattle.cat062_out.specs.Profile.{written, AreWritten, IsRefusal, BeginsValue, BeginsForeign, BeginsNoValue}
use Rattle.cat062_out.proofs.Profiles.{IsProfile, value_record, one_list, one_refusal, not_both}

module _ (T : Type 0) (uap : Uap) (Is : T → Type 0) (items : T → List Element) where
  -- ---- one record

  -- what the body has there is what was written
  pub value_there : (body : List ℕ) (from : ℕ) (r : DataRecord) (s : ItemSpans) (v : T) → HasDataRecord uap body from r s → Is v → s.next ≤ length body → written items v ≡ take (s.next - from) (drop from body)
      → BeginsValue Is items body from v s.next
  value_there body from r s v h is within e =
      let size : s.next - from ≡ length (record_octets r) = omega (arith, h.next) in
      let cut : take (s.next - from) (drop from body) ≡ record_octets r =
      ap (λ n. take n (drop from body)) size ∙ ap (take (length (record_octets r))) h.octets ∙ take-append_seam (record_octets r) (drop s.next body) in
      record {
        is_value = is;
        octets = h.octets ∙ ap (λ x. x ++ drop s.next body) (sym (e ∙ cut));
        next_is = h.next ∙ ap (λ x. from + length x) (sym (e ∙ cut));
        within = within;
      }

  module _ (profile : IsProfile uap Is items) where
    -- what was made of its items, if anything, is written otherwise
    pub foreign_there : (body : List ℕ) (from : ℕ) (r : DataRecord) (s : ItemSpans) (made : Option T) → HasDataRecord uap body from r s → ((v : T) → Is v → items v ≡ elements_at body s.frns.items → made ≡ Some v)
        → ((v : T) → made ≡ Some v → written items v ≢ record_octets r) → BeginsForeign uap Is items body from
    foreign_there body from r s made h reads other = record {
      foreign = r;
      rest = drop s.next body;
      is_foreign = record {
        is_record = h.is_record;
        no_value = λ v is e.
            let one = (record_code uap).same (record_of (items v)) r [] [] (value_record T uap Is items profile v is) h.is_record (append-nil _ ∙ e ∙ sym (append-nil _)) in
            other v (reads v is (ap (λ x. x.items) one.0 ∙ sym h.items)) e;
      };
      octets = h.octets;
    }

  -- ---- the values so far

  pub record SoFar (body : List ℕ) (from : ℕ) (values : List T) : Type 0 where
    pub are_values : AllByRecursion Is values
    pub octets : body ≡ flat_map (written items) values ++ drop from body
    pub from_is : from ≡ length (flat_map (written items) values)
    pub within : from ≤ length body

  pub none_so_far : (body : List ℕ) → SoFar body 0 []
  none_so_far body = record { are_values = tt; octets = refl; from_is = refl; within = omega arith }

  all_push : (values : List T) (v : T) → AllByRecursion Is values → Is v → AllByRecursion Is (values ++ v ∷ [])
  all_push [] v all is = (is, tt)
  all_push (w ∷ values) v all is = (all.0, all_push values v all.1 is)

  pushed : (values : List T) (v : T) → flat_map (written items) (values ++ v ∷ []) ≡ flat_map (written items) values ++ written items v
  pushed values v = flat_map-append (written items) values (v ∷ []) ∙ ap (λ x. flat_map (written items) values ++ x) (append-nil (written items v))

  pub so_far_more : (body : List ℕ) (from next : ℕ) (values : List T) (v : T) → SoFar body from values → BeginsValue Is items body from v next → SoFar body next (values ++ v ∷ [])
  so_far_more body from next values v h b =
      let more = pushed values v in
      record {
        are_values = all_push values v h.are_values b.is_value;
        octets =
            h.octets ∙ ap (λ x. flat_map (written items) values ++ x) b.octets ∙ sym (append_assoc (flat_map (written items) values) (written items v) (drop next body))
            ∙ ap (λ x. x ++ drop next body) (sym more);
        from_is = omega (arith, h.from_is, b.next_is, ap length more, length-append (flat_map (written items) values) (written items v));
        within = b.within;
      }

  pub all_read : (body : List ℕ) (from : ℕ) (values : List T) → SoFar body from values → length body ≤ from → AreWritten Is items body values
  all_read body from values h end = record {
    are_values = h.are_values;
    whole = h.octets ∙ ap (λ x. flat_map (written items) values ++ x) (drop_all from body end) ∙ append-nil (flat_map (written items) values);
  }

  pub refused_there : (block : Block) (from : ℕ) (values : List T) (e : ProfileError) → SoFar block.body.now from values → BeginsNoValue uap Is items block from e → IsRefusal uap Is items block e
  refused_there block from values (errors.Malformed m) h f = record {
    prefix = values;
    rest = drop from block.body.now;
    inside = f.inside;
    are_values = h.are_values;
    whole = h.octets;
    none = f.none;
    offset_is = f.offset_is ∙ ap (λ n. block.at + n + f.inside) h.from_is;
  }
  refused_there block from values (errors.Profile at) h f = record {
    prefix = values;
    foreign = f.0.foreign;
    rest = f.0.rest;
    are_values = h.are_values;
    whole = h.octets ∙ ap (λ x. flat_map (written items) values ++ x) f.0.octets;
    is_foreign = f.0.is_foreign;
    at_is = f.1 ∙ ap (λ n. block.at + n) h.from_is;
  }
  refused_there block from values errors.NoMemory h f = absurd f

  -- ---- the other directions

  module _ (profile : IsProfile uap Is items) (block : Block) (S : Type 0) where
    -- what is told by an answer of values
    pub reads_them : (values vs : List T) → AreWritten Is items block.body.now values → AreWritten Is items block.body.now vs → values ≡ vs
    reads_them values vs a b = one_list T uap Is items profile block.body.now values vs a b

    pub not_refused : (values : List T) (e : ProfileError) → AreWritten Is items block.body.now values → IsRefusal uap Is items block e → ⊥
    not_refused values e a f = not_both T uap Is items profile block values e a f

    -- what is told by a refusal
    pub not_read : (e : ProfileError) (P : S → Type 0) (vs : List T) → IfRefused {T = S} (Err e) (λ e. IsRefusal uap Is items block e) → AreWritten Is items block.body.now vs → AnswersWith {T = S} (Err e) P
    not_read (errors.Malformed m) P vs f a = not_both T uap Is items profile block vs (errors.Malformed m) a f
    not_read (errors.Profile at) P vs f a = not_both T uap Is items profile block vs (errors.Profile at) a f
    not_read errors.NoMemory P vs f a = tt

    pub refuses_so : (e e' : ProfileError) → IfRefused {T = S} (Err e) (λ e. IsRefusal uap Is items block e) → IsRefusal uap Is items block e' → RefusesWith {T = S} (Err e) (λ x. x ≡ e')
    refuses_so (errors.Malformed m) e' f g = one_refusal T uap Is items profile block (errors.Malformed m) e' f g
    refuses_so (errors.Profile at) e' f g = one_refusal T uap Is items profile block (errors.Profile at) e' f g
    refuses_so errors.NoMemory e' f g = tt
