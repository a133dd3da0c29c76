-- The newest edition of a log: that of its last publishing event.
use Rattle.std.specs.Prelude.{◌≡◌, ◌≤◌, ℕ, Bool, true, false, List, [], ◌∷◌, ◌++◌, length, fold, Option, Some, None}
use Rattle.admission_log.specs.declared.settings.Settings.{Settings}
use Rattle.admission_log.specs.declared.events.Event.{Event}
use Rattle.admission_log.specs.declared.events.Event.TheVariants.{Publish}
use Rattle.admission_log.specs.Histories.{History, first, publications_of, published_of}
use Rattle.admission_log.specs.Legality.{IsLegal}
use Rattle.edition_form.specs.declared.edition.Edition.{Edition}
use Rattle.edition_form.specs.Editions.{IsEdition}

abbrev pub is_publication : Event → Bool
is_publication (Publish number cut) = true
is_publication _ = false

-- the cut of the last of these editions, or 0
abbrev pub last_cut : List (ℕ × ℕ) → ℕ
last_cut publications = fold (λ cut p. p.1) 0 publications

-- It is the edition of the events before its cut, after the edition at the cut before, and the log's last publishing event has its number and its cut.
pub record IsNewestOf (settings : Settings) (log : History) (edition : Edition) : Type 0 where
  pub earlier : List (ℕ × ℕ)
  pub number : ℕ
  pub cut : ℕ
  pub last : publications_of log ≡ earlier ++ (number, cut) ∷ []
  pub counted : number ≡ published_of log
  pub within : cut ≤ length log.events
  pub edition_is : IsEdition settings (first cut log) (last_cut earlier) number edition

-- None where no edition was published, else that of the last
abbrev pub IsNewest : Settings → History → Option Edition → Type 0
IsNewest settings log None = publications_of log ≡ []
IsNewest settings log (Some edition) = IsNewestOf settings log edition

-- what the threads share
pub record Shared : Type 0 where
  pub settings : Settings
  pub log : History
  pub newest : Option Edition

-- it stands for a legal log, and has its newest edition
pub record StandsFor (settings : Settings) (log : History) (newest : Option Edition) : Type 0 where
  pub legal : IsLegal settings log
  pub newest_is : IsNewest settings log newest
