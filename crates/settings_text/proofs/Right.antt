-- Where a document gives numbers to all keys, nothing is wrong with its numbers.
use Rattle.std.proofs.Common.{◌≡◌, ℕ, ◌≤◌, ℤ, List, [], ◌∷◌, length, take, false, Option, None, Result, Ok, Err, refl, sym, subst, arith}
use Rattle.std.specs.Prelude.{nat_lt, IfErr}
use Rattle.std.specs.List.{AllZip}
use Rattle.std.proofs.lemmas.Bool.{le-ltb}
use Rattle.std.proofs.lemmas.List.{take_all}
use Rattle.std.proofs.lemmas.Slice.Zip.{AllZip-long}
use Rattle.toml.specs.Data.{Members}
use Rattle.plot_geometry.specs.declared.radars.RadarSettings.{RadarSettings}
use Rattle.admission_log.specs.declared.settings.Settings.{Settings}
use Rattle.settings_text.specs.Keys.{system_keys}
use Rattle.settings_text.specs.declared.faults.SettingsError.{SettingsError}
use Rattle.settings_text.specs.declared.faults.SettingsError.TheVariants.{Fault, NoMemory}
use Rattle.settings_text.specs.Documents.{system_of, radars_of, system_faults, radars_faults, entries_faults, number_faults, IsRadar, SystemGives, AreRadars}
use Rattle.settings_text.specs.Answers.{IsDocument, IsFaultOf, in_document, IsSettingsAnswer, OnFault}
use Rattle.settings_text.proofs.Reading.{no_faults}
use Rattle.settings_text.proofs.Entries.{no_numbered_faults}

pub system_right : (document : Members) (numbers : List ℤ) → SystemGives document numbers → system_faults (system_of document) ≡ []
system_right document numbers given = rw given.stands (no_faults None given.table system_keys numbers given.gives)

pub entries_right : (entries : List (Option Members)) (radars : List RadarSettings) → AllZip IsRadar entries radars → 1 ≤ length radars → length radars ≤ 32 → entries_faults entries ≡ []
entries_right [] [] each some most = absurd (omega arith)
entries_right [] (radar ∷ radars) each some most = absurd each
entries_right (entry ∷ entries) radars each some most =
    let long = AllZip-long IsRadar (entry ∷ entries) radars each in
    let all : take 32 (entry ∷ entries) ≡ entry ∷ entries = take_all 32 (entry ∷ entries) (omega (arith, long)) in
    let short : nat_lt 32 (length (entry ∷ entries)) ≡ false = le-ltb 32 (length (entry ∷ entries)) (omega (arith, long)) in
    rw (no_numbered_faults 0 (take 32 (entry ∷ entries)) radars (subst (λ xs. AllZip IsRadar xs radars) (sym all) each), short) refl

pub radars_right : (document : Members) (radars : List RadarSettings) → AreRadars document radars → 1 ≤ length radars → length radars ≤ 32 → radars_faults (radars_of document) ≡ []
radars_right document radars are some most = rw are.stand (entries_right are.entries radars are.each some most)

pub numbers_right : (document : Members) (numbers : List ℤ) (radars : List RadarSettings) → SystemGives document numbers → AreRadars document radars → 1 ≤ length radars → length radars ≤ 32
    → number_faults document ≡ []
numbers_right document numbers radars given are some most = rw (system_right document numbers given, radars_right document radars are some most) refl

-- the first fault of the document is that of its octets
pub told : (octets : List ℕ) (document : Members) → IsDocument octets document → (result : Result Settings SettingsError) → IfErr result (λ error. OnFault error (IsFaultOf document))
    → IfErr result (λ error. OnFault error (λ fault. IsSettingsAnswer octets (Err fault)))
told octets document is (Ok settings) found = found
told octets document is (Err (Fault fault)) found = in_document document is found
told octets document is (Err NoMemory) found = found
