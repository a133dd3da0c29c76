-- The user application profiles: the data items of each category by FRN, and the subfields of each
-- compound item by bit, as the parts of the standard list them. The program's own tables are proved
-- to be these.
use Rattle.std.specs.Prelude.{ℕ, List, [], ◌∷◌}
use Rattle.asterix_frame.specs.declared.tables.ItemFormat.{ItemFormat}
use Rattle.asterix_frame.specs.declared.tables.ItemFormat.TheVariants.{Spare, Fixed, Extended, Repetitive, Explicit, Compound}
use Rattle.asterix_frame.specs.declared.tables.SubfieldFormat.{SubfieldFormat}
use Rattle.asterix_frame.specs.declared.tables.SubfieldFormat.TheVariants as subfields
use Rattle.asterix_frame.specs.declared.tables.Compound as compound
use Rattle.asterix_frame.specs.declared.tables.Compound.TheVariants.{SystemConfiguration, ProcessingMode, DopplerSpeed, PlotCharacteristics, UpdateAges, AircraftData, Accuracies}
use Rattle.asterix_frame.specs.declared.tables.Uap.{Uap}
use Rattle.asterix_frame.specs.declared.tables.Uap.TheVariants.{Cat034, Cat048, Cat062, Cat063, Cat065}

-- ---- categories

abbrev pub category_of : Uap → ℕ
category_of Cat034 = 34
category_of Cat048 = 48
category_of Cat062 = 62
category_of Cat063 = 63
category_of Cat065 = 65

-- the FRN of the data source identifier: I034/010, I048/010, I062/010, I063/010 and I065/010
abbrev pub source_frn : ℕ
source_frn = 1

-- the FRN of the time of day: I034/030, I048/140, I062/070, I063/030 and I065/030
abbrev pub time_frn : Uap → ℕ
time_frn Cat034 = 3
time_frn Cat048 = 2
time_frn Cat062 = 4
time_frn Cat063 = 3
time_frn Cat065 = 4

-- ---- subfields, from bit 8 of the primary field down to bit 2

-- a bit that stands for no subfield
abbrev pub no_subfield : SubfieldFormat
no_subfield = subfields.Spare

-- a subfield of so many octets
abbrev pub subfield : ℕ → SubfieldFormat
subfield octets = subfields.Fixed octets

-- one octet with a number n, and then n times so many octets
abbrev pub repetitive_subfield : ℕ → SubfieldFormat
repetitive_subfield octets = subfields.Repetitive octets

-- I034/050, system configuration and status: COM, PSR, SSR and MDS
abbrev pub system_configuration : List SubfieldFormat
system_configuration = subfield 1 ∷ no_subfield ∷ no_subfield ∷ subfield 1 ∷ subfield 1 ∷ subfield 2 ∷ no_subfield ∷ []

-- I034/060, system processing mode: COM, PSR, SSR and MDS
abbrev pub processing_mode : List SubfieldFormat
processing_mode = subfield 1 ∷ no_subfield ∷ no_subfield ∷ subfield 1 ∷ subfield 1 ∷ subfield 1 ∷ no_subfield ∷ []

-- I048/130, radar plot characteristics: SRL, SRR, SAM, PRL, PAM, RPD and APD
abbrev pub plot_characteristics : List SubfieldFormat
plot_characteristics = subfield 1 ∷ subfield 1 ∷ subfield 1 ∷ subfield 1 ∷ subfield 1 ∷ subfield 1 ∷ subfield 1 ∷ []

-- I048/120, radial Doppler speed: calculated, and raw
abbrev pub doppler_speed : List SubfieldFormat
doppler_speed = subfield 2 ∷ repetitive_subfield 6 ∷ no_subfield ∷ no_subfield ∷ no_subfield ∷ no_subfield ∷ no_subfield ∷ []

-- I062/290, system track update ages, of which this system writes PSR, SSR and MDS
abbrev pub update_ages : List SubfieldFormat
update_ages = no_subfield ∷ subfield 1 ∷ subfield 1 ∷ subfield 1 ∷ no_subfield ∷ no_subfield ∷ no_subfield ∷ []

-- I062/380, aircraft derived data, of which this system writes the target address
abbrev pub aircraft_data : List SubfieldFormat
aircraft_data = subfield 3 ∷ no_subfield ∷ no_subfield ∷ no_subfield ∷ no_subfield ∷ no_subfield ∷ no_subfield ∷ []

-- I062/500, estimated accuracies, of which this system writes that of the position
abbrev pub accuracies : List SubfieldFormat
accuracies = subfield 4 ∷ no_subfield ∷ no_subfield ∷ no_subfield ∷ no_subfield ∷ no_subfield ∷ no_subfield ∷ []

abbrev pub subfields_of : compound.Compound → List SubfieldFormat
subfields_of SystemConfiguration = system_configuration
subfields_of ProcessingMode = processing_mode
subfields_of DopplerSpeed = doppler_speed
subfields_of PlotCharacteristics = plot_characteristics
subfields_of UpdateAges = update_ages
subfields_of AircraftData = aircraft_data
subfields_of Accuracies = accuracies

-- ---- data items, from FRN 1 on

-- Category 034, monoradar service messages (ASTERIX, Part 2b)
abbrev pub cat034 : List ItemFormat
cat034 =
    -- 1: I034/010, data source identifier
    Fixed 2
    -- 2: I034/000, message type
    ∷ Fixed 1
    -- 3: I034/030, time of day
    ∷ Fixed 3
    -- 4: I034/020, sector number
    ∷ Fixed 1
    -- 5: I034/041, antenna rotation period
    ∷ Fixed 2
    -- 6: I034/050, system configuration and status
    ∷ Compound SystemConfiguration
    -- 7: I034/060, system processing mode
    ∷ Compound ProcessingMode
    -- 8: I034/070, message count values
    ∷ Repetitive 2
    -- 9: I034/100, generic polar window
    ∷ Fixed 8
    -- 10: I034/110, data filter
    ∷ Fixed 1
    -- 11: I034/120, 3D position of the data source
    ∷ Fixed 8
    -- 12: I034/090, collimation error
    ∷ Fixed 2
    -- 13: RE, reserved expansion
    ∷ Explicit
    -- 14: SP, special purpose
    ∷ Explicit
    ∷ []

-- Category 048, monoradar target reports (ASTERIX, Part 4)
abbrev pub cat048 : List ItemFormat
cat048 =
    -- 1: I048/010, data source identifier
    Fixed 2
    -- 2: I048/140, time of day
    ∷ Fixed 3
    -- 3: I048/020, target report descriptor
    ∷ Extended
    -- 4: I048/040, measured position in polar co-ordinates
    ∷ Fixed 4
    -- 5: I048/070, Mode 3/A code
    ∷ Fixed 2
    -- 6: I048/090, flight level
    ∷ Fixed 2
    -- 7: I048/130, radar plot characteristics
    ∷ Compound PlotCharacteristics
    -- 8: I048/220, aircraft address
    ∷ Fixed 3
    -- 9: I048/240, aircraft identification
    ∷ Fixed 6
    -- 10: I048/250, Mode S MB data
    ∷ Repetitive 8
    -- 11: I048/161, track number
    ∷ Fixed 2
    -- 12: I048/042, calculated position in Cartesian co-ordinates
    ∷ Fixed 4
    -- 13: I048/200, calculated track velocity in polar co-ordinates
    ∷ Fixed 4
    -- 14: I048/170, track status
    ∷ Extended
    -- 15: I048/210, track quality
    ∷ Fixed 4
    -- 16: I048/030, warning and error conditions
    ∷ Extended
    -- 17: I048/080, Mode 3/A code confidence
    ∷ Fixed 2
    -- 18: I048/100, Mode C code and confidence
    ∷ Fixed 4
    -- 19: I048/110, height measured by a 3D radar
    ∷ Fixed 2
    -- 20: I048/120, radial Doppler speed
    ∷ Compound DopplerSpeed
    -- 21: I048/230, communications capability and flight status
    ∷ Fixed 2
    -- 22: I048/260, ACAS resolution advisory report
    ∷ Fixed 7
    -- 23: I048/055, Mode 1 code
    ∷ Fixed 1
    -- 24: I048/050, Mode 2 code
    ∷ Fixed 2
    -- 25: I048/065, Mode 1 code confidence
    ∷ Fixed 1
    -- 26: I048/060, Mode 2 code confidence
    ∷ Fixed 2
    -- 27: SP, special purpose
    ∷ Explicit
    -- 28: RE, reserved expansion
    ∷ Explicit
    ∷ []

-- Category 062, system track data (ASTERIX, Part 9), with the items that this system writes
abbrev pub cat062 : List ItemFormat
cat062 =
    -- 1: I062/010, data source identifier
    Fixed 2
    ∷ Spare
    -- 3: I062/015, service identification
    ∷ Fixed 1
    -- 4: I062/070, time of track information
    ∷ Fixed 3
    ∷ Spare
    -- 6: I062/100, calculated position, Cartesian
    ∷ Fixed 6
    -- 7: I062/185, calculated velocity, Cartesian
    ∷ Fixed 4
    ∷ Spare
    -- 9: I062/060, track Mode 3/A code
    ∷ Fixed 2
    ∷ Spare
    -- 11: I062/380, aircraft derived data
    ∷ Compound AircraftData
    -- 12: I062/040, track number
    ∷ Fixed 2
    -- 13: I062/080, track status, which this system writes with four octets
    ∷ Fixed 4
    -- 14: I062/290, system track update ages
    ∷ Compound UpdateAges
    ∷ Spare
    ∷ Spare
    -- 17: I062/136, measured flight level
    ∷ Fixed 2
    ∷ Spare
    ∷ Spare
    ∷ Spare
    ∷ Spare
    ∷ Spare
    ∷ Spare
    ∷ Spare
    ∷ Spare
    ∷ Spare
    -- 27: I062/500, estimated accuracies
    ∷ Compound Accuracies
    ∷ []

-- Category 063, sensor status (ASTERIX, Part 10), with the items that this system writes
abbrev pub cat063 : List ItemFormat
cat063 =
    -- 1: I063/010, data source identifier
    Fixed 2
    -- 2: I063/015, service identification
    ∷ Fixed 1
    -- 3: I063/030, time of message
    ∷ Fixed 3
    -- 4: I063/050, sensor identifier
    ∷ Fixed 2
    -- 5: I063/060, sensor configuration and status
    ∷ Extended
    -- 6: I063/070, time stamping bias
    ∷ Fixed 2
    -- 7: I063/080, SSR or Mode S range gain and bias
    ∷ Fixed 4
    -- 8: I063/081, SSR or Mode S azimuth bias
    ∷ Fixed 2
    ∷ []

-- Category 065, SDPS service status (ASTERIX, Part 15), with the items that this system writes
abbrev pub cat065 : List ItemFormat
cat065 =
    -- 1: I065/010, data source identifier
    Fixed 2
    -- 2: I065/000, message type
    ∷ Fixed 1
    -- 3: I065/015, service identification
    ∷ Fixed 1
    -- 4: I065/030, time of message
    ∷ Fixed 3
    -- 5: I065/020, batch number
    ∷ Fixed 1
    -- 6: I065/040, SDPS configuration and status
    ∷ Fixed 1
    ∷ []

abbrev pub table_of : Uap → List ItemFormat
table_of Cat034 = cat034
table_of Cat048 = cat048
table_of Cat062 = cat062
table_of Cat063 = cat063
table_of Cat065 = cat065
