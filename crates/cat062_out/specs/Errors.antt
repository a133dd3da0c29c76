-- What a fault of the octets is as a refusal of a block.
use Rattle.asterix_frame.specs.declared.block.BlocksError.{BlocksError}
use Rattle.asterix_frame.specs.declared.block.BlocksError.TheVariants as blocks
use Rattle.cat062_out.specs.declared.error.ProfileError.{ProfileError}
use Rattle.cat062_out.specs.declared.error.ProfileError.TheVariants as errors

abbrev pub of_blocks : BlocksError → ProfileError
of_blocks (blocks.Malformed m) = errors.Malformed m
of_blocks blocks.NoMemory = errors.NoMemory
