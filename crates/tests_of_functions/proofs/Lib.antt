mod Cubes
mod Ops
